use Rattle.facts.specs.declared.name.Name.{Name}
use Rattle.facts.specs.declared.term.Term.{Term}
use Rattle.std.specs.Prelude.{Some, None, Option}

abbrev pub bare_name : Term → Option Name
bare_name (Term.Bare n) = Some n
bare_name (Term.Unary s n) = None
bare_name (Term.Binary s n m) = None
