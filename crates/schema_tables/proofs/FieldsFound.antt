-- Fields with what is kept of their arguments.
use Rattle.std.proofs.Common.{◌≡◌, ℕ, zero, suc, ◌<◌, Bool, true, false, true≢false, cond, List, [], ◌∷◌, ◌++◌, length, get_or, slice_get, Option, Some, None, option_map, bytes_eq, refl, ap, sym, subst, ◌∙◌, arith}
use Rattle.gql_ast.specs.declared.member.FieldTree.{FieldTree}
use Rattle.gql_ast.specs.declared.member.InputTree.{InputTree}
use Rattle.gql_ast.proofs.gql_plain_laws.InOrder.{AreInOrder-none}
use Rattle.schema_tables.proofs.Finding.{finds, missing}
use Rattle.schema_tables.specs.declared.places.InputPlaces as kept
use Rattle.schema_tables.specs.InputPlaces.{ArePlaced}
use Rattle.schema_tables.specs.Places.{first_at, first_that}
use Rattle.schema_tables.specs.TableParts.{AreKept, ArePlacesOf, IsKept, IsPutFor, is_field_named}
use Rattle.schema_tables.specs.Types.{Text, field_def, field_named, is_empty}

get_front : {X : Type 0} (xs ys : List X) (k : ℕ) (x : X) → slice_get xs k ≡ Some x → slice_get (xs ++ ys) k ≡ Some x
get_front [] ys k x e = cc
get_front (z ∷ xs) ys zero x e = e
get_front (z ∷ xs) ys (suc k) x e = get_front xs ys k x e

get_next : {X : Type 0} (xs : List X) (y : X) → slice_get (xs ++ y ∷ []) (length xs) ≡ Some y
get_next [] y = refl
get_next (x ∷ xs) y = get_next xs y

one_more : (f : FieldTree) (ps qs : List kept.InputPlaces) (k : ℕ) → IsKept f (slice_get ps k) → IsKept f (slice_get (ps ++ qs) k)
one_more f ps qs k is = λ some. on (slice_get ps k) refl (is some)
  where
    on : (o : Option kept.InputPlaces) → slice_get ps k ≡ o → ArePlacesOf f o → ArePlacesOf f (slice_get (ps ++ qs) k)
    on None e are = absurd are
    on (Some p) e are = subst (ArePlacesOf f) (sym (get_front ps qs k p e)) are

more_kept : (fs : List FieldTree) (ks : List ℕ) (ps qs : List kept.InputPlaces) → AreKept fs ks ps → AreKept fs ks (ps ++ qs)
more_kept [] [] ps qs are = tt
more_kept [] (k ∷ ks) ps qs are = absurd are
more_kept (f ∷ fs) [] ps qs are = absurd are
more_kept (f ∷ fs) (k ∷ ks) ps qs are = (one_more f ps qs k are.0, more_kept fs ks ps qs are.1)

one_kept : (fs : List FieldTree) (ks : List ℕ) (ps : List kept.InputPlaces) (f : FieldTree) (k : ℕ) → AreKept fs ks ps → IsKept f (slice_get ps k) → AreKept (fs ++ f ∷ []) (ks ++ k ∷ []) ps
one_kept [] [] ps f k are is = (is, tt)
one_kept [] (j ∷ ks) ps f k are is = absurd are
one_kept (g ∷ fs) [] ps f k are is = absurd are
one_kept (g ∷ fs) (j ∷ ks) ps f k are is = (are.0, one_kept fs ks ps f k are.1 is)

-- one field more
pub field_kept : (fs : List FieldTree) (ks : List ℕ) (old new : List kept.InputPlaces) (f : FieldTree) → AreKept fs ks old → IsPutFor f old new
    → AreKept (fs ++ f ∷ []) (ks ++ length old ∷ []) new
field_kept fs ks old new f are put = on (is_empty f.arguments) refl
  where
    on : (b : Bool) → is_empty f.arguments ≡ b → AreKept (fs ++ f ∷ []) (ks ++ length old ∷ []) new
    on true e = subst (AreKept (fs ++ f ∷ []) (ks ++ length old ∷ [])) (sym (put.0 e)) (one_kept fs ks old f (length old) are (λ some. absurd (true≢false (sym e ∙ some))))
    on false e =
        let p = put.1 e in
        subst (AreKept (fs ++ f ∷ []) (ks ++ length old ∷ [])) (sym p.1)
        (one_kept fs ks (old ++ p.0 ∷ []) f (length old) (more_kept fs ks old (p.0 ∷ []) are) (λ some. subst (ArePlacesOf f) (sym (get_next old p.0)) p.2))

-- ---- the field at a place

pub kept_places : (fs : List FieldTree) (ks : List ℕ) (ps : List kept.InputPlaces) (at : ℕ) → AreKept fs ks ps → at < length fs → at < length ks
kept_places [] ks ps at are low = absurd (omega arith)
kept_places (f ∷ fs) [] ps at are low = absurd are
kept_places (f ∷ fs) (k ∷ ks) ps zero are low = omega arith
kept_places (f ∷ fs) (k ∷ ks) ps (suc at) are low =
    let rest = kept_places fs ks ps at are.1 (omega arith) in
    omega arith

is_kept : (fs : List FieldTree) (ks : List ℕ) (ps : List kept.InputPlaces) (at : ℕ) (f : FieldTree) (k : ℕ) → AreKept fs ks ps → at < length fs → f ≡ get_or fs at f
    → k ≡ get_or ks at k → IsKept f (slice_get ps k)
is_kept [] ks ps at f k are low here is = absurd (omega arith)
is_kept (g ∷ fs) [] ps at f k are low here is = absurd are
is_kept (g ∷ fs) (j ∷ ks) ps zero f k are low here is = subst (λ x. IsKept f (slice_get ps x)) (sym is) (subst (λ x. IsKept x (slice_get ps j)) (sym here) are.0)
is_kept (g ∷ fs) (j ∷ ks) ps (suc at) f k are low here is = is_kept fs ks ps at f k are.1 (omega arith) here is

within : {X : Type 0} (xs : List X) (k : ℕ) (x : X) → slice_get xs k ≡ Some x → k < length xs
within [] k x e = cc
within (z ∷ xs) zero x e = omega arith
within (z ∷ xs) (suc k) x e = let rest = within xs k x e in omega arith

got : {X : Type 0} (xs : List X) (k : ℕ) (d x : X) → slice_get xs k ≡ Some x → get_or xs k d ≡ x
got [] k d x e = cc
got (z ∷ xs) zero d x e = cc
got (z ∷ xs) (suc k) d x e = got xs k d x e

-- what is kept of the arguments of a field that has any
pub arguments_within : (fs : List FieldTree) (ks : List ℕ) (ps : List kept.InputPlaces) (at : ℕ) (f : FieldTree) (k : ℕ) → AreKept fs ks ps → at < length fs → f ≡ get_or fs at f
    → k ≡ get_or ks at k → is_empty f.arguments ≡ false → k < length ps
arguments_within fs ks ps at f k are low here is some = on (slice_get ps k) refl (is_kept fs ks ps at f k are low here is some)
  where
    on : (o : Option kept.InputPlaces) → slice_get ps k ≡ o → ArePlacesOf f o → k < length ps
    on None e are = absurd are
    on (Some p) e are = within ps k p e

pub arguments_placed : (fs : List FieldTree) (ks : List ℕ) (ps : List kept.InputPlaces) (at : ℕ) (f : FieldTree) (k : ℕ) (p : kept.InputPlaces) → AreKept fs ks ps → at < length fs
    → f ≡ get_or fs at f → k ≡ get_or ks at k → is_empty f.arguments ≡ false → p ≡ get_or ps k p → ArePlaced f.arguments p.names.places.items p.required.places.items
arguments_placed fs ks ps at f k p are low here is some there = on (slice_get ps k) refl (is_kept fs ks ps at f k are low here is some)
  where
    on : (o : Option kept.InputPlaces) → slice_get ps k ≡ o → ArePlacesOf f o → ArePlaced f.arguments p.names.places.items p.required.places.items
    on None e are = absurd are
    on (Some q) e are = subst (λ (x : kept.InputPlaces). ArePlaced f.arguments x.names.places.items x.required.places.items) (sym (there ∙ got ps k p q e)) are

-- ---- fields by their names

pub named_first : (fs : List FieldTree) (n : Text) → field_named fs n ≡ first_that (is_field_named n) fs
named_first [] n = refl
named_first (f ∷ fs) n = ap (cond (bytes_eq f.name n) (Some f)) (named_first fs n)

get_there : {X : Type 0} (xs : List X) (k : ℕ) (d : X) → k < length xs → slice_get xs k ≡ Some (get_or xs k d)
get_there [] k d low = absurd (omega arith)
get_there (x ∷ xs) zero d low = refl
get_there (x ∷ xs) (suc k) d low = get_there xs k d (omega arith)

pub field_there : (fs : List FieldTree) (n : Text) (at : ℕ) (d : FieldTree) → at < length fs → first_at (is_field_named n) fs ≡ Some at
    → option_map field_def (slice_get fs at) ≡ option_map field_def (field_named fs n)
field_there fs n at d low e = ap (option_map field_def) (get_there fs at d low ∙ sym (finds (is_field_named n) fs at d e) ∙ sym (named_first fs n))

pub field_gone : (fs : List FieldTree) (n : Text) → first_at (is_field_named n) fs ≡ None → field_named fs n ≡ None
field_gone fs n e = named_first fs n ∙ missing (is_field_named n) fs e

-- ---- a field without arguments

pub none_placed : (f : FieldTree) → f.arguments ≡ [] → ArePlaced f.arguments [] []
none_placed f e = subst (λ (is : List InputTree). ArePlaced is [] []) (sym e) (record {
  names = record { in_order = AreInOrder-none; finds = λ n. refl };
  required = record { in_order = AreInOrder-none; finds = λ n. refl };
})

pub has_some : (f : FieldTree) → (f.arguments ≡ [] → ⊥) → is_empty f.arguments ≡ false
has_some f some = on f.arguments refl
  where
    on : (is : List InputTree) → f.arguments ≡ is → is_empty is ≡ false
    on [] e = absurd (some e)
    on (i ∷ is) e = refl

pub has_none : (f : FieldTree) → f.arguments ≡ [] → is_empty f.arguments ≡ true
has_none f e = ap is_empty e

pub there_is : (fs : List FieldTree) (at : ℕ) (f : FieldTree) → at < length fs → f ≡ get_or fs at f → Some (field_def f) ≡ option_map field_def (slice_get fs at)
there_is fs at f low is = ap (λ g. Some (field_def g)) is ∙ sym (ap (option_map field_def) (get_there fs at f low))
