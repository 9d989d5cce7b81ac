-- Names differ exactly where there are as many first places of names as there are elements.
use Rattle.std.proofs.Common.{◌≡◌, ◌==◌, ℕ, Bool, Decides, List, map, length, nat_cmp, is_some, bytes_eq, refl, ap, sym, subst, ◌∙◌}
use Rattle.std.proofs.lemmas.Bool.Decides.{Decides-eqb}
use Rattle.std.proofs.lemmas.List.{length-map}
use Rattle.std.proofs.lemmas.Map.Keys.{IsDistinct-from_sorted}
use Rattle.std.proofs.lemmas.Map.Made.{length-from_keys, IsDistinct-from_count, distinct_count-from_IsDistinct}
use Rattle.std.proofs.lemmas.Map.Text.{is_eq-slice_cmp}
use Rattle.std.proofs.lemmas.Slice.Eq.{bytes_eq-Decides}
use Rattle.std.specs.Cmp.{IsEquivalence}
use Rattle.std.specs.Cmp.Lexicographic.{slice_cmp}
use Rattle.std.specs.List.{IsDistinct, list_any}
use Rattle.std.specs.Set.{distinct_count, is_member}
use Rattle.gql_graph.specs.gql_plain.Order.{AreInOrder, has_text}
use Rattle.schema_tables.proofs.Counting.{eq_swap}
use Rattle.schema_tables.proofs.Finding.{first_at-map}
use Rattle.schema_tables.proofs.InputsFound.{has_name, names_there}
use Rattle.schema_tables.specs.Indexes.{IsIndexOf, is_named, name_at}
use Rattle.schema_tables.specs.Types.{Text}

text_equivalence : IsEquivalence bytes_eq
text_equivalence = record {
  refl = λ a. (bytes_eq-Decides a a).1 refl;
  symm = eq_swap;
  congr = λ a b c e. ap (λ d. bytes_eq d c) ((bytes_eq-Decides a b).0 e);
}

in_order_differ : (ns : List Text) → AreInOrder ns → IsDistinct bytes_eq ns
in_order_differ ns up = subst (λ (e : Text → Text → Bool). IsDistinct e ns) (λ i a b. is_eq-slice_cmp a b i) (IsDistinct-from_sorted (slice_cmp nat_cmp) ns up)

member_is : (ns : List Text) (n : Text) → is_member bytes_eq ns n ≡ has_text ns n
member_is ns n = ap (λ (test : Text → Bool). list_any test ns) (λ i one. eq_swap n one i)

module _ {X : Type 0} (name : X → Text) (xs : List X) (places : List ℕ) (index : IsIndexOf name (is_named name) xs places) where
  same_names : (n : Text) → is_member bytes_eq (map (name_at name xs) places) n ≡ is_member bytes_eq (map name xs) n
  same_names n =
      member_is (map (name_at name xs) places) n ∙ names_there name xs places n ∙ ap is_some (index.finds n)
      ∙ ap is_some (sym (first_at-map name (λ m. bytes_eq m n) xs)) ∙ has_name (map name xs) n ∙ sym (member_is (map name xs) n)

  counted : length places ≡ distinct_count bytes_eq (map name xs)
  counted =
      sym (length-map places (name_at name xs))
      ∙ length-from_keys text_equivalence (map (name_at name xs) places) (map name xs) (in_order_differ (map (name_at name xs) places) index.in_order) same_names

  pub names_differ : Decides (length places == length xs) (IsDistinct bytes_eq (map name xs))
  names_differ = (
    λ e.
        IsDistinct-from_count text_equivalence (map name xs)
        (sym counted ∙ (Decides-eqb (length places) (length xs)).0 e ∙ sym (length-map xs name)),
    λ d. (Decides-eqb (length places) (length xs)).1 (counted ∙ distinct_count-from_IsDistinct text_equivalence (map name xs) d ∙ length-map xs name),
  )
