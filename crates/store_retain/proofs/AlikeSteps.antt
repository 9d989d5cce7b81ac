-- Ways that lead to the same, and steps that are the same.
use Rattle.std.proofs.Common.{◌≡◌, ℕ, zero, suc, ◌+◌, ◌<◌, ◌≤◌, Bool, true, false, true≢false, ◌&&◌, ◌||◌, List, [], ◌∷◌, ◌++◌, map, take, length, get_or, slice_get, Option, Some, None, bytes_eq, refl, sym, ap, ◌∙◌}
use Rattle.std.proofs.lemmas.List.{append-nil, map-append, take_all, take_more}
use Rattle.std.proofs.lemmas.Slice.Eq.{bytes_eq-Decides, slice_eq-Decides}
use Rattle.std.specs.List.{list_any}
use Rattle.std.specs.Option.{option_eq}
use Rattle.plan_ir.proofs.gql_graph_laws.TextSteps.{same_text}
use Rattle.plan_ir.specs.gql_plain.Equal.{texts_eq}
use Rattle.plan_ir.specs.gql_plain.Order.{has_text}
use Rattle.plan_ir.specs.store_model.Reaches.{links_of, links_under}
use Rattle.plan_ir.specs.store_model.Walks.{Fields, Slots}
use Rattle.plan_ir.specs.store_record.Keys.{Text}
use Rattle.store_retain.proofs.Bools.{any_append, or_assoc, or_twice}
use Rattle.store_retain.specs.Steps.{Alike, Found, Follows, LeadAlike, Step, is_possible, steps_to, way_steps, ways_steps}
use Rattle.store_retain.specs.TrailView.{way_at}
use Rattle.store_retain.specs.Ways.{Way, is_like}
use Rattle.store_retain.specs.declared.trail.TrailAt.{TrailAt}

-- what is found after steps is found after steps that are alike
pub follows_alike : (m : Slots) (root : Text) (a b : Found) (xs ys : List Step) → Alike xs ys → Follows m root a b xs → Follows m root a b ys
follows_alike m root a b xs ys same f = record {
  ids = λ j. f.ids j ∙ ap (λ x. has_text a.ids j || x) (same (λ s. bytes_eq s.id j));
  next = λ p. f.next p ∙ ap (λ x. list_any p a.next || x) (same (λ s. is_possible root s.types (m s.id) && p (s.id, s.parts)));
}

-- ---- ways that are like each other

pub both_first : (a b : Bool) → (a && b) ≡ true → a ≡ true
both_first true b e = refl
both_first false b e = e

pub both_second : (a b : Bool) → (a && b) ≡ true → b ≡ true
both_second true b e = e
both_second false b e = absurd (true≢false (sym e))

same_handle : (h k : Option Text) → option_eq bytes_eq h k ≡ true → h ≡ k
same_handle None None e = refl
same_handle None (Some k) e = absurd (true≢false (sym e))
same_handle (Some h) None e = absurd (true≢false (sym e))
same_handle (Some h) (Some k) e = ap Some (same_text h k e)

same_types : (ts us : List Text) → texts_eq ts us ≡ true → ts ≡ us
same_types ts us e = (slice_eq-Decides bytes_eq-Decides ts us (texts_eq ts us) refl).0 e

like_steps : (fields : Fields) (ks : List ℕ) (v w : Way) → is_like v w ≡ true → way_steps fields ks v ≡ way_steps fields ks w
like_steps fields ks v w e =
    let keys : (bytes_eq v.key w.key && option_eq bytes_eq v.handle w.handle) ≡ true = both_first (bytes_eq v.key w.key && option_eq bytes_eq v.handle w.handle) (texts_eq v.types w.types) e in
    let key : v.key ≡ w.key = same_text v.key w.key (both_first (bytes_eq v.key w.key) (option_eq bytes_eq v.handle w.handle) keys) in
    let handle : v.handle ≡ w.handle = same_handle v.handle w.handle (both_second (bytes_eq v.key w.key) (option_eq bytes_eq v.handle w.handle) keys) in
    let types : v.types ≡ w.types = same_types v.types w.types (both_second (bytes_eq v.key w.key && option_eq bytes_eq v.handle w.handle) (texts_eq v.types w.types) e) in
    λ i. steps_to (types i) ks (links_of (fields (key i)) ++ links_under fields (handle i))

-- ---- one more

module _ {A : Type 0} (own : A → List Step) (all : List A → List Step) (none : all [] ≡ []) (cons : (x : A) (xs : List A) → all (x ∷ xs) ≡ own x ++ all xs) (p : Step → Bool) where
  pub any_more : (xs : List A) (y : A) → list_any p (all (xs ++ y ∷ [])) ≡ (list_any p (all xs) || list_any p (own y))
  any_more [] y = ap (list_any p) (cons y [] ∙ ap (λ ss. own y ++ ss) none ∙ append-nil (own y)) ∙ ap (λ ss. list_any p ss || list_any p (own y)) (sym none)
  any_more (x ∷ xs) y =
      ap (list_any p) (cons x (xs ++ y ∷ []))
      ∙ any_append p (own x) (all (xs ++ y ∷ []))
      ∙ ap (λ b. list_any p (own x) || b) (any_more xs y)
      ∙ sym (or_assoc (list_any p (own x)) (list_any p (all xs)) (list_any p (own y)))
      ∙ ap (λ b. b || list_any p (own y)) (sym (ap (list_any p) (cons x xs) ∙ any_append p (own x) (all xs)))

way_more : (fields : Fields) (ks : List ℕ) (p : Step → Bool) (vs : List Way) (w : Way) → list_any p (ways_steps fields ks (vs ++ w ∷ [])) ≡ (list_any p (ways_steps fields ks vs) || list_any p (way_steps fields ks w))
way_more fields ks p vs w = any_more (way_steps fields ks) (ways_steps fields ks) refl (λ x xs. refl) p vs w

-- what a trail leads to is among what they lead to
there : (fields : Fields) (ks : List ℕ) (p : Step → Bool) (ts : List TrailAt) (i : ℕ) (t : TrailAt) → slice_get ts i ≡ Some t
    → list_any p (ways_steps fields ks (map way_at ts)) ≡ (list_any p (ways_steps fields ks (map way_at ts)) || list_any p (way_steps fields ks (way_at t)))
there fields ks p [] i t e = cc
there fields ks p (u ∷ ts) zero t e =
    let same : u ≡ t = cc in
    let split = any_append p (way_steps fields ks (way_at u)) (ways_steps fields ks (map way_at ts)) in
    split
    ∙ or_twice (list_any p (way_steps fields ks (way_at u))) (list_any p (ways_steps fields ks (map way_at ts)))
    ∙ (λ i. sym split i || list_any p (way_steps fields ks (way_at (same i))))
there fields ks p (u ∷ ts) (suc i) t e =
    let split = any_append p (way_steps fields ks (way_at u)) (ways_steps fields ks (map way_at ts)) in
    split
    ∙ ap (λ b. list_any p (way_steps fields ks (way_at u)) || b) (there fields ks p ts i t e)
    ∙ sym (or_assoc (list_any p (way_steps fields ks (way_at u))) (list_any p (ways_steps fields ks (map way_at ts))) (list_any p (way_steps fields ks (way_at t))))
    ∙ ap (λ b. b || list_any p (way_steps fields ks (way_at t))) (sym split)

-- a way that is like one of the trails leads to nothing more
pub more_alike : (ts : List TrailAt) (i : ℕ) (t : TrailAt) (w : Way) → slice_get ts i ≡ Some t → is_like (way_at t) w ≡ true → LeadAlike (map way_at ts) (map way_at ts ++ w ∷ [])
more_alike ts i t w at like = λ fields ks p.
    there fields ks p ts i t at
    ∙ ap (λ ss. list_any p (ways_steps fields ks (map way_at ts)) || list_any p ss) (like_steps fields ks (way_at t) w like)
    ∙ sym (way_more fields ks p (map way_at ts) w)

-- ---- loops

pub pushed_alike : (old new : List TrailAt) (t : TrailAt) → new ≡ old ++ t ∷ [] → LeadAlike (map way_at new) (map way_at old ++ way_at t ∷ [])
pushed_alike old new t pushed = λ fields ks p. ap (λ ws. list_any p (ways_steps fields ks ws)) (ap (map way_at) pushed ∙ map-append way_at old (t ∷ []))

pub alike_next : (ts : List TrailAt) (i : ℕ) (d t : TrailAt) (old new : List Way) → i < length ts → t ≡ get_or ts i d → LeadAlike old (map way_at (take i ts)) → LeadAlike new (old ++ way_at t ∷ [])
    → LeadAlike new (map way_at (take (i + 1) ts))
alike_next ts i d t old new within is before put = λ fields ks p.
    let whole : map way_at (take (i + 1) ts) ≡ map way_at (take i ts) ++ way_at t ∷ [] =
    ap (map way_at) (take_more ts i d within) ∙ map-append way_at (take i ts) (get_or ts i d ∷ []) ∙ ap (λ x. map way_at (take i ts) ++ way_at x ∷ []) (sym is) in
    put fields ks p
    ∙ way_more fields ks p old (way_at t)
    ∙ ap (λ b. b || list_any p (way_steps fields ks (way_at t))) (before fields ks p)
    ∙ sym (way_more fields ks p (map way_at (take i ts)) (way_at t))
    ∙ ap (λ ws. list_any p (ways_steps fields ks ws)) (sym whole)

pub alike_end : (ts : List TrailAt) (i : ℕ) (new : List Way) → length ts ≤ i → LeadAlike new (map way_at (take i ts)) → LeadAlike new (map way_at ts)
alike_end ts i new h before = λ fields ks p. before fields ks p ∙ ap (λ (us : List TrailAt). list_any p (ways_steps fields ks (map way_at us))) (take_all i ts h)
