-- Names and terms: when two are the same, and the arguments of a term.
use Rattle.std.specs.Prelude.{Bool, ◌&&◌, Some, None, Option, ◌==◌}
use Rattle.facts.specs.Fields.{sent}
use Rattle.facts.specs.declared.literal.SentTerm.{SentTerm}
use Rattle.facts.specs.declared.name.Name.{Name}
use Rattle.facts.specs.declared.term.Term.{Term}
use Rattle.theory.specs.declared.inference.Position.{Position}

abbrev pub same_name : Name → Name → Bool
same_name n m = n.index == m.index

abbrev pub same_bytes : SentTerm → SentTerm → Bool
same_bytes s t = s.tag == t.tag && s.letter == t.letter && s.first == t.first && s.second == t.second

-- two terms are the same if they are sent as the same bytes
abbrev pub same_term : Term → Term → Bool
same_term t u = same_bytes (sent t) (sent u)

-- the argument of a term at a position, if it has one there
abbrev pub argument : Position → Term → Option Name
argument p (Term.Bare n) = None
argument Position.First (Term.Unary s n) = Some n
argument Position.Second (Term.Unary s n) = None
argument Position.First (Term.Binary s n m) = Some n
argument Position.Second (Term.Binary s n m) = Some m

-- the term with a name in place of the argument at a position
abbrev pub replaced : Position → Name → Term → Term
replaced p b (Term.Bare n) = Term.Bare n
replaced Position.First b (Term.Unary s n) = Term.Unary s b
replaced Position.Second b (Term.Unary s n) = Term.Unary s n
replaced Position.First b (Term.Binary s n m) = Term.Binary s b m
replaced Position.Second b (Term.Binary s n m) = Term.Binary s n b
