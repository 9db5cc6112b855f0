use Rattle.std.proofs.Common.{refl}
use Rattle.std.proofs.lemmas.List.Elements.{All-from_recursion}
use Rattle.worked.specs.Table.{Holds, table}
use Rattle.worked.proofs.worked_cases.Goals as goal

pub returns-clause-hold : goal.returns-clause-hold
returns-clause-hold c = All-from_recursion Holds table ((λ show result a. (refl, refl)), ((λ show result a. (refl, refl)), tt))
