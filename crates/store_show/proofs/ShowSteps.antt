-- Steps of the walk that writes: what fields and pointers show and meet, one step after another.
use Rattle.std.proofs.Common.{◌≡◌, ℕ, ◌+◌, ◌<◌, ◌≤◌, Bool, true, false, ◌||◌, List, [], ◌∷◌, ◌++◌, drop, length, get_or, append_assoc, refl, sym, ap, ◌∙◌, arith}
use Rattle.std.proofs.lemmas.List.{length-append}
use Rattle.json.specs.Token.{Token}
use Rattle.plan_ir.specs.ReaderMeaning.{ReaderPart, collect_reading}
use Rattle.plan_ir.specs.ReaderView.{step_of, steps_of}
use Rattle.plan_ir.specs.declared.reader.ReaderStep.{ReaderStep}
use Rattle.plan_order.specs.Walk.{Span, field_met, field_shown, fields_met, fields_shown, is_taken, pointers_met, pointers_shown}
use Rattle.plan_ir.specs.schema_types.Environments.{Values}
use Rattle.plan_ir.specs.store_model.Items.{Item, asked, pointed}
use Rattle.plan_ir.specs.store_model.Walks.{Fields, Next, Trace, join_traces, pointer_at}
use Rattle.store_read.proofs.GatherSteps.{steps_left}
use Rattle.store_show.proofs.StoodSteps.{stood_joined}
use Rattle.store_read.specs.Meeting.{Meeting}
use Rattle.store_show.proofs.ShowTokens.{pairs-append}
use Rattle.store_show.specs.Showing.{pairs_tokens}
use Rattle.store_show.specs.Stood.{stood_onto}
use Rattle.plan_ir.specs.store_record.Keys.{Text}

-- ---- traces

or_assoc : (a b c : Bool) → ((a || b) || c) ≡ (a || (b || c))
or_assoc true b c = refl
or_assoc false b c = refl

pub join_assoc : (s t u : Trace) → join_traces (join_traces s t) u ≡ join_traces s (join_traces t u)
join_assoc s t u = λ i. record {
  missing = or_assoc s.missing t.missing u.missing i;
  seen = append_assoc s.seen t.seen u.seen i;
  looked = append_assoc s.looked t.looked u.looked i;
  issued = append_assoc s.issued t.issued u.issued i;
}

-- ---- items one after another

module _ (span : Span) (next : Next ReaderPart) (T : Text) (fields : Fields) where
  pub fields_shown-append : (xs ys : List (Item ReaderPart)) → fields_shown span next T fields (xs ++ ys) ≡ fields_shown span next T fields xs ++ fields_shown span next T fields ys
  fields_shown-append [] ys = refl
  fields_shown-append (asked a ∷ xs) ys =
      ap (λ ms. field_shown (is_taken span a.ask.response) next T fields a ++ ms) (fields_shown-append xs ys)
      ∙ sym (append_assoc (field_shown (is_taken span a.ask.response) next T fields a) (fields_shown span next T fields xs) (fields_shown span next T fields ys))
  fields_shown-append (pointed p ∷ xs) ys = fields_shown-append xs ys

  pub fields_met-append : (xs ys : List (Item ReaderPart)) → fields_met span next T fields (xs ++ ys) ≡ join_traces (fields_met span next T fields xs) (fields_met span next T fields ys)
  fields_met-append [] ys = refl
  fields_met-append (asked a ∷ xs) ys =
      ap (join_traces (field_met (is_taken span a.ask.response) next T fields a)) (fields_met-append xs ys)
      ∙ sym (join_assoc (field_met (is_taken span a.ask.response) next T fields a) (fields_met span next T fields xs) (fields_met span next T fields ys))
  fields_met-append (pointed p ∷ xs) ys = fields_met-append xs ys

  pub fields_tokens-append : (xs ys : List (Item ReaderPart))
      → pairs_tokens (fields_shown span next T fields (xs ++ ys)) ≡ pairs_tokens (fields_shown span next T fields xs) ++ pairs_tokens (fields_shown span next T fields ys)
  fields_tokens-append xs ys = ap pairs_tokens (fields_shown-append xs ys) ∙ pairs-append (fields_shown span next T fields xs) (fields_shown span next T fields ys)

module _ (next : Next ReaderPart) (T id : Text) where
  pub pointers_shown-append : (xs ys : List (Item ReaderPart)) → pointers_shown next T id (xs ++ ys) ≡ pointers_shown next T id xs ++ pointers_shown next T id ys
  pointers_shown-append [] ys = refl
  pointers_shown-append (asked a ∷ xs) ys = pointers_shown-append xs ys
  pointers_shown-append (pointed p ∷ xs) ys = ap (λ ms. (p.fragment, (pointer_at next T id p p.inline).0) ∷ ms) (pointers_shown-append xs ys)

  pub pointers_met-append : (xs ys : List (Item ReaderPart)) → pointers_met next T id (xs ++ ys) ≡ join_traces (pointers_met next T id xs) (pointers_met next T id ys)
  pointers_met-append [] ys = refl
  pointers_met-append (asked a ∷ xs) ys = pointers_met-append xs ys
  pointers_met-append (pointed p ∷ xs) ys =
      ap (join_traces (pointer_at next T id p p.inline).1) (pointers_met-append xs ys)
      ∙ sym (join_assoc (pointer_at next T id p p.inline).1 (pointers_met next T id xs) (pointers_met next T id ys))

  pub pointers_tokens-append : (xs ys : List (Item ReaderPart))
      → pairs_tokens (pointers_shown next T id (xs ++ ys)) ≡ pairs_tokens (pointers_shown next T id xs) ++ pairs_tokens (pointers_shown next T id ys)
  pointers_tokens-append xs ys = ap pairs_tokens (pointers_shown-append xs ys) ∙ pairs-append (pointers_shown next T id xs) (pointers_shown next T id ys)

-- ---- steps one after another

module _ (f : List (Item ReaderPart) → List Token) (t : List (Item ReaderPart) → Trace)
    (f-append : (xs ys : List (Item ReaderPart)) → f (xs ++ ys) ≡ f xs ++ f ys) (t-append : (xs ys : List (Item ReaderPart)) → t (xs ++ ys) ≡ join_traces (t xs) (t ys))
    (env : Values) (T : Text) (xs : List ReaderStep) (i : ℕ) (x : ReaderStep) (h : i < length xs) (is : x ≡ get_or xs i x) where
  abbrev here : List (Item ReaderPart)
  here = collect_reading env T (step_of x)

  abbrev left : List (Item ReaderPart)
  left = collect_reading env T (steps_of (drop (i + 1) xs))

  abbrev all : List (Item ReaderPart)
  all = collect_reading env T (steps_of (drop i xs))

  pub step_shown : (old new whole : List Token) → new ≡ old ++ f here → old ++ f all ≡ whole → new ++ f left ≡ whole
  step_shown old new whole e w =
      ap (λ ts. ts ++ f left) e
      ∙ append_assoc old (f here) (f left)
      ∙ ap (λ ts. old ++ ts) (sym (f-append here left) ∙ ap f (steps_left env T xs i x h is))
      ∙ w

  met_left : join_traces (t here) (t left) ≡ t all
  met_left = sym (t-append here left) ∙ ap t (steps_left env T xs i x h is)

  pub step_met : (old new whole : Meeting) → new ≡ stood_onto old (t here) → stood_onto old (t all) ≡ whole → stood_onto new (t left) ≡ whole
  step_met old new whole e w = ap (λ m. stood_onto m (t left)) e ∙ stood_joined old (t here) (t left) ∙ ap (stood_onto old) met_left ∙ w

  pub step_looks : (start old new : ℕ) → new ≤ old + length (t here).seen → old + length (t all).seen ≤ start → new + length (t left).seen ≤ start
  step_looks start old new e w = omega (arith, w, e, length-append (t here).seen (t left).seen, ap (λ (u : Trace). length u.seen) met_left)

  pub step_looks_here : (start old new : ℕ) → new ≤ old + length (t here).seen → old + length (t all).seen ≤ start → new ≤ start
  step_looks_here start old new e w = omega (arith, w, e, length-append (t here).seen (t left).seen, ap (λ (u : Trace). length u.seen) met_left)
