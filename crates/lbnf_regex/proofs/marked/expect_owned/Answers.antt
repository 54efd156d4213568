-- The kind of the mark is gone through.
use Rattle.std.proofs.Common.{map, arith}
use Rattle.std.specs.List.{Contains}
use Rattle.lbnf_regex.specs.Owners.{owners_from}
use Rattle.lbnf_regex.specs.Patterns.{bytes_of_pattern}
use Rattle.lbnf_regex.proofs.OwnerLemmas.{owner_found, owner_within, owner_room, owner_expects, owned_by, owned_all}
use Rattle.lbnf_regex.proofs.marked.expect_owned.Goals as goal

pub kind_at-requires : goal.kind_at-requires
kind_at-requires c =
    let kinds = c.args.kinds.now in
    let owner = c.in-Some.owner.now in
    let found = c.in-Some.ensures.lookup in
    let at =
    owner_found c.args.owners.now (owners_from (map bytes_of_pattern kinds) 0 0) c.args.mark owner c.requires.owners
    found.0 found.1 in
    owner_within kinds c.args.mark owner (Contains c.args.marks.now) at

pub expect-requires : goal.expect-requires
expect-requires c =
    let kinds = c.args.kinds.now in
    let owner = c.in-Some.owner.now in
    let found = c.in-Some.ensures.lookup in
    let at =
    owner_found c.args.owners.now (owners_from (map bytes_of_pattern kinds) 0 0) c.args.mark owner c.requires.owners
    found.0 found.1 in
    omega (
      arith,
      c.requires.room,
      owner_room kinds c.args.mark owner (Contains c.args.marks.now) at c.kind_at.result.now c.kind_at.ensures,
    )

pub returns-clause-adds : goal.returns-clause-adds
returns-clause-adds c =
    let kinds = c.args.kinds.now in
    let owner = c.in-Some.owner.now in
    let kind = c.kind_at.result.now in
    let M = Contains c.args.marks.now in
    let found = c.in-Some.ensures.lookup in
    let at =
    owner_found c.args.owners.now (owners_from (map bytes_of_pattern kinds) 0 0) c.args.mark owner c.requires.owners
    found.0 found.1 in
    owned_by (map bytes_of_pattern kinds) M c.args.mark c.args.into.now (bytes_of_pattern kind) owner at
    (owner_expects kinds c.args.mark owner M at kind c.kind_at.ensures) c.expect.new.into c.in_ok-expect.ensures

pub returns-clause-last : goal.returns-clause-last
returns-clause-last c =
    let kinds = c.args.kinds.now in
    let owner = c.in-Some.owner.now in
    let kind = c.kind_at.result.now in
    let M = Contains c.args.marks.now in
    let found = c.in-Some.ensures.lookup in
    let at =
    owner_found c.args.owners.now (owners_from (map bytes_of_pattern kinds) 0 0) c.args.mark owner c.requires.owners
    found.0 found.1 in
    owned_all (map bytes_of_pattern kinds) M c.args.mark c.args.into.now (bytes_of_pattern kind) owner at
    (owner_expects kinds c.args.mark owner M at kind c.kind_at.ensures) c.expect.new.into c.in_ok-expect.ensures
