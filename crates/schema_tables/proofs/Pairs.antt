-- Pairs of a name and a place: sorted by their names, and put one after another.
use Rattle.std.proofs.Common.{◌≡◌, ℕ, Bool, true, false, cond, List, [], ◌∷◌, ◌++◌, map, Option, Some, None, option_map, nat_cmp, bytes_eq, refl, sym, ap, subst, ◌∙◌}
use Rattle.std.proofs.lemmas.List.{map-append}
use Rattle.std.specs.Cmp.Lexicographic.{slice_cmp}
use Rattle.std.specs.List.{dedup}
use Rattle.std.specs.List.Sorted.{IsStableBy, IsSortedBy}
use Rattle.std.specs.Ordering.{is_lt}
use Rattle.gql_graph.specs.gql_plain.Order.{AreInOrder}
use Rattle.schema_tables.proofs.Indexing.{first_kept, first_of_kept, kept_in_order, placed_more}
use Rattle.schema_tables.specs.declared.index.NamePlace.{NamePlace}
use Rattle.schema_tables.specs.Indexes.{IsSortedFrom, pair_of, place_among}
use Rattle.schema_tables.specs.Places.{first_place, first_that}
use Rattle.schema_tables.specs.Types.{Text}

abbrev pub key : NamePlace → Text
key p = p.name.now

abbrev pub at_of : NamePlace → ℕ
at_of p = p.at

places_are : (ps : List NamePlace) → map at_of ps ≡ map (λ (p : Text × ℕ). p.1) (map pair_of ps)
places_are [] = refl
places_are (p ∷ ps) = ap (λ more. p.at ∷ more) (places_are ps)

names_are : (ps : List NamePlace) → map key ps ≡ map (λ (p : Text × ℕ). p.0) (map pair_of ps)
names_are [] = refl
names_are (p ∷ ps) = ap (λ more. p.name.now ∷ more) (names_are ps)

among : (ps : List NamePlace) (n : Text) → place_among (map pair_of ps) n ≡ option_map at_of (first_that (λ p. bytes_eq (key p) n) ps)
among [] n = refl
among (p ∷ ps) n = on (among ps n) (bytes_eq (key p) n)
  where
    on : place_among (map pair_of ps) n ≡ option_map at_of (first_that (λ q. bytes_eq (key q) n) ps) → (b : Bool)
        → option_map (λ (q : Text × ℕ). q.1) (cond b (Some (pair_of p)) (first_that (λ (q : Text × ℕ). bytes_eq q.0 n) (map pair_of ps)))
        ≡ option_map at_of (cond b (Some p) (first_that (λ q. bytes_eq (key q) n) ps))
    on rest true = refl
    on rest false = rest

pub sorted_pairs : (given sorted kept : List NamePlace) (places : List ℕ) → IsStableBy (λ x y. is_lt (slice_cmp nat_cmp (key x) (key y))) given sorted
    → IsSortedBy (λ x y. is_lt (slice_cmp nat_cmp (key x) (key y))) sorted → kept ≡ dedup (λ x y. bytes_eq (key x) (key y)) sorted → places ≡ map at_of kept
    → IsSortedFrom (map pair_of given) places
sorted_pairs given sorted kept places stable up is are = record {
  pairs = map pair_of kept;
  are = are ∙ places_are kept;
  in_order = subst AreInOrder (ap (map key) (sym is) ∙ names_are kept) (kept_in_order key sorted up);
  finds = λ n.
      among kept n
      ∙ ap (option_map at_of) (ap (first_that (λ p. bytes_eq (key p) n)) is ∙ first_of_kept key n sorted ∙ first_kept key given sorted n stable)
      ∙ sym (among given n);
}

-- one more pair at the end counts last
pub put_next : (old new : List NamePlace) (p : NamePlace) (n : Text) → new ≡ old ++ p ∷ []
    → place_among (map pair_of new) n ≡ first_place (place_among (map pair_of old) n) (bytes_eq (key p) n) p.at
put_next old new p n is =
    ap (λ ps. place_among ps n) (ap (map pair_of) is ∙ map-append pair_of old (p ∷ [])) ∙ placed_more (map pair_of old) (key p) p.at n

pub not_put : (r : Option ℕ) (at : ℕ) → r ≡ first_place r false at
not_put None at = refl
not_put (Some k) at = refl
