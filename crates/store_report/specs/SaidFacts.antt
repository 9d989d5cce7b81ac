-- What a gathered fact, and a gathered fault, are seen as; and the order of facts by id and key.
use Rattle.std.specs.Prelude.{Bool, true, false, not, ◌&&◌, cond, List, [], ◌∷◌, ◌++◌, Option, Some, None, option_copied}
use Rattle.std.specs.Ordering.{is_eq}
use Rattle.std.specs.declared.cmp.Ordering.{Ordering}
use Rattle.store_model.specs.store_record.Equal.{field_eq}
use Rattle.store_model.specs.store_record.Keys.{Text}
use Rattle.store_model.specs.store_record.declared.field.Field.{Field}
use Rattle.store_model.specs.FactOrder.{fact_cmp}
use Rattle.store_model.specs.Says.{Path, Put}
use Rattle.store_model.specs.Verdicts.{same_place}
use Rattle.store_model.specs.declared.facts.Fact.{Fact}
use Rattle.store_model.specs.declared.payload_fault.PathStep.TheVariants.{Key}
use Rattle.store_model.specs.declared.payload_fault.PayloadFault.{PayloadFault}
use Rattle.store_report.specs.declared.said.SaidFact.{SaidFact}
use Rattle.store_report.specs.declared.said.SaidFault.{SaidFault}

abbrev pub fact_of : SaidFact → Fact
fact_of f = record { id = f.id; key = f.key; value = f.value }

-- the path of an object, with a response key behind it where there is one
abbrev pub path_to : Path → Option Text → Path
path_to path None = path
path_to path (Some response) = path ++ Key response ∷ []

abbrev pub put_of : SaidFact → Put
put_of f = record { fact = fact_of f; path = path_to f.path (option_copied f.response) }

abbrev pub fault_of : SaidFault → PayloadFault
fault_of f = record { path = f.path; cause = f.cause }

abbrev pub place_cmp : SaidFact → SaidFact → Ordering
place_cmp a b = fact_cmp (fact_of a) (fact_of b)

-- of one id and key
abbrev pub is_same_fact : SaidFact → SaidFact → Bool
is_same_fact a b = is_eq (place_cmp a b)

abbrev pub put_place_cmp : Put → Put → Ordering
put_place_cmp p q = fact_cmp p.fact q.fact

-- ---- two values at one place

-- the put is of the same place as the one before it, with another value
abbrev pub clashes : Option Put → Put → Bool
clashes None q = false
clashes (Some p) q = same_place p q && not (field_eq q.fact.value p.fact.value)

-- of puts in order, the first that clashes with the one before it
abbrev pub clash_from : Option Put → List Put → Option Put
clash_from before [] = None
clash_from before (p ∷ ps) = cond (clashes before p) (Some p) (clash_from (Some p) ps)

-- the value differs from one that is given
abbrev pub is_unlike : Option Field → Put → Bool
is_unlike None q = true
is_unlike (Some value) q = not (field_eq q.fact.value value)

-- of the place of another put, and with a value that differs from one that is given
abbrev pub is_candidate : Put → Option Field → Put → Bool
is_candidate p unlike q = same_place p q && is_unlike unlike q
