-- What is gathered, with one thing more.
use Rattle.std.proofs.Common.{◌≡◌, ℕ, zero, suc, ◌<◌, List, [], ◌∷◌, ◌++◌, length, map, get_or, set, option_copied, Option, Some, None, refl, ap, ◌∙◌, arith}
use Rattle.store_model.specs.store_record.declared.field.Field.{Field}
use Rattle.store_model.specs.Says.{Put, report_pages, fault_at}
use Rattle.store_model.specs.Verdicts.{fault_cmp}
use Rattle.store_model.specs.declared.facts.HandleFact.{HandleFact}
use Rattle.store_model.specs.declared.payload_fault.PayloadFault.{PayloadFault}
use Rattle.store_report.specs.Gathering.{lesser_some, gathered_onto, puts_with}
use Rattle.store_report.specs.SaidFacts.{path_to, put_of}
use Rattle.store_report.specs.declared.said.SaidFact.{SaidFact}

nothing_after : {A : Type 0} (xs : List A) → xs ≡ xs ++ []
nothing_after [] = refl
nothing_after (x ∷ xs) = ap (λ ys. x ∷ ys) (nothing_after xs)

none_after : (fault : Option PayloadFault) → fault ≡ lesser_some fault_cmp fault None
none_after None = refl
none_after (Some f) = refl

map_push : (facts : List SaidFact) (f : SaidFact) → map put_of (facts ++ f ∷ []) ≡ map put_of facts ++ put_of f ∷ []
map_push [] f = refl
map_push (g ∷ facts) f = ap (λ ps. put_of g ∷ ps) (map_push facts f)

pub with_put : (facts : List SaidFact) (pages : List HandleFact) (fault : Option PayloadFault) (f : SaidFact) (p : Put) → put_of f ≡ p
    → record { puts = map put_of (facts ++ f ∷ []); pages = pages; fault = fault } ≡ gathered_onto (record { puts = map put_of facts; pages = pages; fault = fault }) (record { puts = p ∷ []; pages = []; faults = [] })
with_put facts pages fault f p e =
    let puts = map_push facts f ∙ ap (λ q. map put_of facts ++ q ∷ []) e in
    λ i. record { puts = puts i; pages = nothing_after pages i; fault = none_after fault i }

pub with_page : (puts : List Put) (pages : List HandleFact) (fault : Option PayloadFault) (page : HandleFact)
    → record { puts = puts; pages = pages ++ page ∷ []; fault = fault } ≡ gathered_onto (record { puts = puts; pages = pages; fault = fault }) (report_pages (page ∷ []))
with_page puts pages fault page = λ i. record { puts = nothing_after puts i; pages = pages ++ page ∷ []; fault = none_after fault i }

pub with_fault : (puts : List Put) (pages : List HandleFact) (fault : Option PayloadFault) (f : PayloadFault)
    → record { puts = puts; pages = pages; fault = lesser_some fault_cmp fault (Some f) } ≡ gathered_onto (record { puts = puts; pages = pages; fault = fault }) (fault_at f.path f.cause)
with_fault puts pages fault f = λ i. record { puts = nothing_after puts i; pages = nothing_after pages i; fault = lesser_some fault_cmp fault (Some f) }

pub puts_set : (facts : List SaidFact) (at : ℕ) (f : SaidFact) (value : Field) → at < length facts → f ≡ get_or facts at f
    → map put_of (set facts at (record { id = f.id; key = f.key; value = value; path = f.path; response = f.response })) ≡ puts_with at value (map put_of facts)
puts_set [] at f value lt is = absurd (omega (arith, lt))
puts_set (g ∷ facts) zero f value lt is = ap (λ (h : SaidFact). record { fact = record { id = h.id; key = h.key; value = value }; path = path_to h.path (option_copied h.response) } ∷ map put_of facts) is
puts_set (g ∷ facts) (suc at) f value lt is = ap (λ ps. put_of g ∷ ps) (puts_set facts at f value (omega (arith, lt)) is)
