use Rattle.cell_sets.proofs.PlacesLemmas.{place_searched}
use Rattle.cell_sets.proofs.places.place_of.Goals as goal

pub returns : goal.returns
returns c = place_searched c.args.items.now c.args.symbol c.binary_search.result c.requires c.binary_search.ensures.position
