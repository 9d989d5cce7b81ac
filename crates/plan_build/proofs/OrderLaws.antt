-- Texts in byte order differ.
use Rattle.std.proofs.Common.{◌≡◌, Bool, true, false, true≢false, ◌||◌, List, [], ◌∷◌, nat_cmp, is_eq, bytes_eq, refl, ap, sym, ◌∙◌, subst}
use Rattle.std.proofs.lemmas.Cmp.{tied_itself}
use Rattle.std.specs.Cmp.Lexicographic.{slice_cmp, nat_list_cmp_total}
use Rattle.std.specs.List.{AllByRecursion, filter, filter_map}
use Rattle.std.specs.List.Sorted.{IsStrictlySortedBy}
use Rattle.std.specs.declared.cmp.Ordering.TheVariants.{Less}
use Rattle.plan_ir.proofs.gql_graph_laws.TextSteps.{same_text}
use Rattle.plan_ir.proofs.gql_plain_laws.SortedTexts.{AreInOrder-sorted_texts}
use Rattle.plan_ir.specs.gql_plain.Order.{AreInOrder, has_text}
use Rattle.plan_ir.specs.schema_tables.Types.{Text, Defs, applies, object_name, possible}
use Rattle.plan_build.proofs.ClassLaws.{Differ}

not_itself : (a : Text) → slice_cmp nat_cmp a a ≡ Less → ⊥
not_itself a h = true≢false (ap is_eq (sym (tied_itself nat_list_cmp_total a) ∙ h))

apart : (a b : Text) → slice_cmp nat_cmp a b ≡ Less → bytes_eq b a ≡ false
apart a b less = on (bytes_eq b a) refl where
  on : (c : Bool) → bytes_eq b a ≡ c → c ≡ false
  on true e = absurd (not_itself a (subst (λ (t : Text). slice_cmp nat_cmp a t ≡ Less) (same_text b a e) less))
  on false e = refl

later_differ : (T : Text) (ts : List Text) → AllByRecursion (λ later. slice_cmp nat_cmp T later ≡ Less) ts → has_text ts T ≡ false
later_differ T [] h = refl
later_differ T (X ∷ ts) h = ap (λ (b : Bool). b || has_text ts T) (apart T X h.0) ∙ later_differ T ts h.1

pub differ_in_order : (ts : List Text) → AreInOrder ts → Differ ts
unfolding IsStrictlySortedBy
differ_in_order [] h = tt
differ_in_order (T ∷ ts) h = (later_differ T ts h.0, differ_in_order ts h.1)

pub differ_possible : (defs : Defs) (t : Text) → Differ (possible defs t)
differ_possible defs t = differ_in_order (possible defs t) (AreInOrder-sorted_texts (filter (λ object. applies defs object t) (filter_map object_name defs)))

pub differ_one : (T : Text) → Differ (T ∷ [])
differ_one T = (refl, tt)
