-- Any scalar is a class of its own.
use Rattle.lbnf_regex.proofs.encoding.class_pattern.Goals as goal

pub returns-in-AnyChar : goal.returns-in-AnyChar
returns-in-AnyChar c = rw c.in-AnyChar.is c.any_scalar.ensures
