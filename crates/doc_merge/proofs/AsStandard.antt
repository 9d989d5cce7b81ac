-- The definition has the places of the standard's own form.
use Rattle.std.proofs.Common.{◌≡◌, ℕ, zero, suc, ◌≤◌, Bool, true, false, true≢false, cond, not, ◌&&◌, ◌||◌, List, [], ◌∷◌, ◌++◌, bytes_eq, refl, ap, sym, ◌∙◌, arith}
use Rattle.std.specs.List.{list_any}
use Rattle.doc_merge.proofs.Anys.{any-append, or_true}
use Rattle.doc_merge.specs.Merging.{Field, Fields, against, crossing, differ, differences, field, meet, no_fields}
use Rattle.doc_merge.specs.Places.{wrong}
use Rattle.doc_merge.specs.Shapes.{same_shape}
use Rattle.doc_merge.specs.Signatures.{same_signature}
use Rattle.doc_merge.specs.Standard.{depth, each_set_can_merge, fields_in_set_can_merge, join, later, pairs, same_response_shape}
use Rattle.plan_ir.specs.gql_ast.declared.place.FilePlace.{FilePlace}

abbrev In : (FilePlace → Bool) → List FilePlace → Type 0
In p xs = list_any p xs ≡ true

or_elim : {P : Type 0} (a b : Bool) → (a || b) ≡ true → (a ≡ true → P) → (b ≡ true → P) → P
or_elim true b e f g = f refl
or_elim false b e f g = g e

or_l : (a b : Bool) → a ≡ true → (a || b) ≡ true
or_l a b e = ap (λ c. c || b) e

or_r : (a b : Bool) → b ≡ true → (a || b) ≡ true
or_r a b e = ap (λ c. a || c) e ∙ or_true a

split : {P : Type 0} (p : FilePlace → Bool) (xs ys : List FilePlace) → In p (xs ++ ys) → (In p xs → P) → (In p ys → P) → P
split p xs ys e f g = or_elim (list_any p xs) (list_any p ys) (sym (any-append p xs ys) ∙ e) f g

left : (p : FilePlace → Bool) (xs ys : List FilePlace) → In p xs → In p (xs ++ ys)
left p xs ys e = any-append p xs ys ∙ or_l (list_any p xs) (list_any p ys) e

right : (p : FilePlace → Bool) (xs ys : List FilePlace) → In p ys → In p (xs ++ ys)
right p xs ys e = any-append p xs ys ∙ or_r (list_any p xs) (list_any p ys) e

nothing : {P : Type 0} → false ≡ true → P
nothing e = absurd (true≢false (sym e))

wrong_more : (p : FilePlace → Bool) (d e : Bool) (n : FilePlace) → (d ≡ true → e ≡ true) → In p (wrong d n) → In p (wrong e n)
wrong_more p true e n h i = ap (λ b. list_any p (wrong b n)) (h refl) ∙ i
wrong_more p false e n h i = nothing i

and_more : (m n b : Bool) → (m ≡ true → n ≡ true) → (m && b) ≡ true → (n && b) ≡ true
and_more true n b h e = ap (λ c. c && b) (h refl) ∙ e
and_more false n b h e = nothing e

differ_more : (m n : Bool) (a b : Field) → (m ≡ true → n ≡ true) → differ m a b ≡ true → differ n a b ≡ true
differ_more m n a b h e = or_elim (not (same_shape a.shape b.shape)) (m && not (same_signature a.signature b.signature)) e
    (λ f. or_l (not (same_shape a.shape b.shape)) (n && not (same_signature a.signature b.signature)) f)
    (λ f. or_r (not (same_shape a.shape b.shape)) (n && not (same_signature a.signature b.signature)) (and_more m n (not (same_signature a.signature b.signature)) h f))

-- a part that counts where a test holds
on_key : {P : Type 0} (p : FilePlace → Bool) (k : Bool) (xs : List FilePlace) → In p (cond k xs []) → (k ≡ true → In p xs → P) → P
on_key p true xs e f = f refl e
on_key p false xs e f = nothing e

with_key : (p : FilePlace → Bool) (k : Bool) (xs : List FilePlace) → k ≡ true → In p xs → In p (cond k xs [])
with_key p true xs e i = i
with_key p false xs e i = nothing e

against_more : (p : FilePlace → Bool) (a : Field) (f g : Bool → Fields → List FilePlace) (m n : Bool) → (m ≡ true → n ≡ true)
    → ((u v : Bool) (cs : Fields) → (u ≡ true → v ≡ true) → In p (f u cs) → In p (g v cs)) → (bs : Fields) → In p (against m a f bs) → In p (against n a g bs)
against_more p a f g m n h i no_fields e = e
against_more p a f g m n h i (field b below next) e =
    let mm : Bool = m && meet a.parent b.parent in
    let nn : Bool = n && meet a.parent b.parent in
    let old : List FilePlace = wrong (differ mm a b) b.place ++ f mm below in
    let new : List FilePlace = wrong (differ nn a b) b.place ++ g nn below in
    split p (cond (bytes_eq a.key b.key) old []) (against m a f next) e
    (λ q. left p (cond (bytes_eq a.key b.key) new []) (against n a g next) (on_key p (bytes_eq a.key b.key) old q (λ k r. with_key p (bytes_eq a.key b.key) new k
    (split p (wrong (differ mm a b) b.place) (f mm below) r
    (λ s. left p (wrong (differ nn a b) b.place) (g nn below) (wrong_more p (differ mm a b) (differ nn a b) b.place (differ_more mm nn a b (and_more m n (meet a.parent b.parent) h)) s))
    (λ s. right p (wrong (differ nn a b) b.place) (g nn below) (i mm nn below (and_more m n (meet a.parent b.parent) h) s))))))
    (λ q. right p (cond (bytes_eq a.key b.key) new []) (against n a g next) (against_more p a f g m n h i next q))

crossing_more : (p : FilePlace → Bool) (us : Fields) (m n : Bool) (vs : Fields) → (m ≡ true → n ≡ true) → In p (crossing m us vs) → In p (crossing n us vs)
crossing_more p no_fields m n vs h e = e
crossing_more p (field a below next) m n vs h e =
    let f : Bool → Fields → List FilePlace = λ (u : Bool) (cs : Fields). crossing u below cs in
    split p (against m a f vs) (crossing m next vs) e
    (λ q. left p (against n a f vs) (crossing n next vs) (against_more p a f f m n h (λ u v cs i r. crossing_more p below u v cs i r) vs q))
    (λ q. right p (against n a f vs) (crossing n next vs) (crossing_more p next m n vs h q))

abbrev within : Bool → Fields → List FilePlace
within m no_fields = []
within m (field a below next) = within m below ++ against m a (λ (n : Bool) (cs : Fields). crossing n below cs) next ++ within m next

differences_within : (fs : Fields) → differences fs ≡ within true fs
differences_within no_fields = refl
differences_within (field a below next) = λ k. differences_within below k ++ against true a (λ (n : Bool) (cs : Fields). crossing n below cs) next ++ differences_within next k

-- the three parts of a set
into_below : (p : FilePlace → Bool) (m : Bool) (a : Field) (below next : Fields) → In p (within m below) → In p (within m (field a below next))
into_below p m a below next e = left p (within m below ++ against m a (λ (n : Bool) (cs : Fields). crossing n below cs) next) (within m next)
    (left p (within m below) (against m a (λ (n : Bool) (cs : Fields). crossing n below cs) next) e)

into_against : (p : FilePlace → Bool) (m : Bool) (a : Field) (below next : Fields) → In p (against m a (λ (n : Bool) (cs : Fields). crossing n below cs) next) → In p (within m (field a below next))
into_against p m a below next e = left p (within m below ++ against m a (λ (n : Bool) (cs : Fields). crossing n below cs) next) (within m next)
    (right p (within m below) (against m a (λ (n : Bool) (cs : Fields). crossing n below cs) next) e)

into_next : (p : FilePlace → Bool) (m : Bool) (a : Field) (below next : Fields) → In p (within m next) → In p (within m (field a below next))
into_next p m a below next e = right p (within m below ++ against m a (λ (n : Bool) (cs : Fields). crossing n below cs) next) (within m next) e

out_of : {P : Type 0} (p : FilePlace → Bool) (m : Bool) (a : Field) (below next : Fields) → In p (within m (field a below next))
    → (In p (within m below) → P) → (In p (against m a (λ (n : Bool) (cs : Fields). crossing n below cs) next) → P) → (In p (within m next) → P) → P
out_of p m a below next e f g h =
    split p (within m below ++ against m a (λ (n : Bool) (cs : Fields). crossing n below cs) next) (within m next) e
    (λ q. split p (within m below) (against m a (λ (n : Bool) (cs : Fields). crossing n below cs) next) q f g) h

within_more : (p : FilePlace → Bool) (fs : Fields) → In p (within false fs) → In p (within true fs)
within_more p no_fields e = e
within_more p (field a below next) e = out_of p false a below next e
    (λ q. into_below p true a below next (within_more p below q))
    (λ q. into_against p true a below next (against_more p a (λ (n : Bool) (cs : Fields). crossing n below cs) (λ (n : Bool) (cs : Fields). crossing n below cs) false true (λ i. nothing i)
    (λ u v cs i r. crossing_more p below u v cs i r) next q))
    (λ q. into_next p true a below next (within_more p next q))

assoc : (us vs ws : List FilePlace) → (us ++ vs) ++ ws ≡ us ++ (vs ++ ws)
assoc [] vs ws = refl
assoc (u ∷ us) vs ws = ap (λ (zs : List FilePlace). u ∷ zs) (assoc us vs ws)

against_join : (m : Bool) (a : Field) (f : Bool → Fields → List FilePlace) (xs ys : Fields) → against m a f (join xs ys) ≡ against m a f xs ++ against m a f ys
against_join m a f no_fields ys = refl
against_join m a f (field b below next) ys = ap (λ (zs : List FilePlace). cond (bytes_eq a.key b.key) (wrong (differ (m && meet a.parent b.parent) a b) b.place ++ f (m && meet a.parent b.parent) below) [] ++ zs) (against_join m a f next ys)
    ∙ sym (assoc (cond (bytes_eq a.key b.key) (wrong (differ (m && meet a.parent b.parent) a b) b.place ++ f (m && meet a.parent b.parent) below) []) (against m a f next) (against m a f ys))

later_join : (g : Field → Fields → Field → Fields → List FilePlace) (a : Field) (below xs ys : Fields) → later g a below (join xs ys) ≡ later g a below xs ++ later g a below ys
later_join g a below no_fields ys = refl
later_join g a below (field b inner next) ys = ap (λ (zs : List FilePlace). cond (bytes_eq a.key b.key) (g a below b inner) [] ++ zs) (later_join g a below next ys)
    ∙ sym (assoc (cond (bytes_eq a.key b.key) (g a below b inner) []) (later g a below next) (later g a below ys))

out_of_join : {P : Type 0} (p : FilePlace → Bool) (m : Bool) (xs ys : Fields) → In p (within m (join xs ys)) → (In p (within m xs) → P) → (In p (crossing m xs ys) → P) → (In p (within m ys) → P) → P
out_of_join p m no_fields ys e f g h = h e
out_of_join p m (field a below next) ys e f g h =
    let c : Bool → Fields → List FilePlace = λ (n : Bool) (cs : Fields). crossing n below cs in
    out_of p m a below (join next ys) e
    (λ q. f (into_below p m a below next q))
    (λ q. split p (against m a c next) (against m a c ys) (sym (ap (list_any p) (against_join m a c next ys)) ∙ q)
    (λ r. f (into_against p m a below next r))
    (λ r. g (left p (against m a c ys) (crossing m next ys) r)))
    (λ q. out_of_join p m next ys q (λ r. f (into_next p m a below next r)) (λ r. g (right p (against m a c ys) (crossing m next ys) r)) h)

-- ---- the standard's places are among the definition's

abbrev around : Bool → Field → Fields → Field → Fields → List FilePlace
around m a below b inner = (wrong (differ (m && meet a.parent b.parent) a b) b.place ++ crossing (m && meet a.parent b.parent) below inner) ++ (within m below ++ within m inner)

later_up : {P : Type 0} (p : FilePlace → Bool) (m : Bool) (g : Field → Fields → Field → Fields → List FilePlace) → ((a : Field) (below : Fields) (b : Field) (inner : Fields) → In p (g a below b inner) → In p (around m a below b inner))
    → (a : Field) (below next : Fields) → In p (later g a below next) → (In p (within m below) → P) → (In p (against m a (λ (n : Bool) (cs : Fields). crossing n below cs) next) → P) → (In p (within m next) → P) → P
later_up p m g h a below no_fields e f i j = nothing e
later_up p m g h a below (field b inner next) e f i j =
    let c : Bool → Fields → List FilePlace = λ (n : Bool) (cs : Fields). crossing n below cs in
    let mm : Bool = m && meet a.parent b.parent in
    let first : List FilePlace = cond (bytes_eq a.key b.key) (wrong (differ mm a b) b.place ++ c mm inner) [] in
    split p (cond (bytes_eq a.key b.key) (g a below b inner) []) (later g a below next) e
    (λ q. on_key p (bytes_eq a.key b.key) (g a below b inner) q (λ k r. split p (wrong (differ mm a b) b.place ++ c mm inner) (within m below ++ within m inner) (h a below b inner r)
    (λ s. i (left p first (against m a c next) (with_key p (bytes_eq a.key b.key) (wrong (differ mm a b) b.place ++ c mm inner) k s)))
    (λ s. split p (within m below) (within m inner) s f (λ t. j (into_below p m b inner next t)))))
    (λ q. later_up p m g h a below next q f (λ r. i (right p first (against m a c next) r)) (λ r. j (into_next p m b inner next r)))

pairs_up : (p : FilePlace → Bool) (m : Bool) (g : Field → Fields → Field → Fields → List FilePlace) → ((a : Field) (below : Fields) (b : Field) (inner : Fields) → In p (g a below b inner) → In p (around m a below b inner))
    → (fs : Fields) → In p (pairs g fs) → In p (within m fs)
pairs_up p m g h no_fields e = e
pairs_up p m g h (field a below next) e = split p (later g a below next) (pairs g next) e
    (λ q. later_up p m g h a below next q (λ r. into_below p m a below next r) (λ r. into_against p m a below next r) (λ r. into_next p m a below next r))
    (λ q. into_next p m a below next (pairs_up p m g h next q))

-- a part of what stands around a pair
around_differ : (p : FilePlace → Bool) (m : Bool) (a : Field) (below : Fields) (b : Field) (inner : Fields) (d : Bool) → (d ≡ true → differ (m && meet a.parent b.parent) a b ≡ true) → In p (wrong d b.place) → In p (around m a below b inner)
around_differ p m a below b inner d h e =
    left p (wrong (differ (m && meet a.parent b.parent) a b) b.place ++ crossing (m && meet a.parent b.parent) below inner) (within m below ++ within m inner)
    (left p (wrong (differ (m && meet a.parent b.parent) a b) b.place) (crossing (m && meet a.parent b.parent) below inner) (wrong_more p d (differ (m && meet a.parent b.parent) a b) b.place h e))

around_join : (p : FilePlace → Bool) (m n : Bool) (a : Field) (below : Fields) (b : Field) (inner : Fields) → (n ≡ true → (m && meet a.parent b.parent) ≡ true) → (In p (within n below) → In p (within m below)) → (In p (within n inner) → In p (within m inner))
    → In p (within n (join below inner)) → In p (around m a below b inner)
around_join p m n a below b inner h f g e =
    let own : List FilePlace = wrong (differ (m && meet a.parent b.parent) a b) b.place ++ crossing (m && meet a.parent b.parent) below inner in
    out_of_join p n below inner e
    (λ q. right p own (within m below ++ within m inner) (left p (within m below) (within m inner) (f q)))
    (λ q. left p own (within m below ++ within m inner) (right p (wrong (differ (m && meet a.parent b.parent) a b) b.place) (crossing (m && meet a.parent b.parent) below inner) (crossing_more p below n (m && meet a.parent b.parent) inner h q)))
    (λ q. right p own (within m below ++ within m inner) (right p (within m below) (within m inner) (g q)))

shape_up : (p : FilePlace → Bool) (n : ℕ) (fs : Fields) → In p (same_response_shape n fs) → In p (within false fs)
shape_up p zero fs e = nothing e
shape_up p (suc n) fs e = pairs_up p false (λ a below b inner. wrong (not (same_shape a.shape b.shape)) b.place ++ same_response_shape n (join below inner))
    (λ a below b inner q. split p (wrong (not (same_shape a.shape b.shape)) b.place) (same_response_shape n (join below inner)) q
    (λ r. around_differ p false a below b inner (not (same_shape a.shape b.shape)) (λ s. or_l (not (same_shape a.shape b.shape)) false s) r)
    (λ r. around_join p false false a below b inner (λ s. s) (λ s. s) (λ s. s) (shape_up p n (join below inner) r))) fs e

merge_up : (p : FilePlace → Bool) (n : ℕ) (fs : Fields) → In p (fields_in_set_can_merge n fs) → In p (within true fs)
merge_up p zero fs e = nothing e
merge_up p (suc n) fs e = pairs_up p true (λ a below b inner. (wrong (not (same_shape a.shape b.shape)) b.place ++ same_response_shape n (join below inner)) ++ cond (meet a.parent b.parent) (wrong (not (same_signature a.signature b.signature)) b.place ++ fields_in_set_can_merge n (join below inner)) [])
    (λ a below b inner q. split p (wrong (not (same_shape a.shape b.shape)) b.place ++ same_response_shape n (join below inner)) (cond (meet a.parent b.parent) (wrong (not (same_signature a.signature b.signature)) b.place ++ fields_in_set_can_merge n (join below inner)) []) q
    (λ r. split p (wrong (not (same_shape a.shape b.shape)) b.place) (same_response_shape n (join below inner)) r
    (λ s. around_differ p true a below b inner (not (same_shape a.shape b.shape)) (λ t. or_l (not (same_shape a.shape b.shape)) (meet a.parent b.parent && not (same_signature a.signature b.signature)) t) s)
    (λ s. around_join p true false a below b inner (λ t. nothing t) (λ t. within_more p below t) (λ t. within_more p inner t) (shape_up p n (join below inner) s)))
    (λ r. on_key p (meet a.parent b.parent) (wrong (not (same_signature a.signature b.signature)) b.place ++ fields_in_set_can_merge n (join below inner)) r (λ k s. split p (wrong (not (same_signature a.signature b.signature)) b.place) (fields_in_set_can_merge n (join below inner)) s
    (λ t. around_differ p true a below b inner (not (same_signature a.signature b.signature)) (λ u. or_r (not (same_shape a.shape b.shape)) (meet a.parent b.parent && not (same_signature a.signature b.signature)) (ap (λ c. c && not (same_signature a.signature b.signature)) k ∙ u)) t)
    (λ t. around_join p true true a below b inner (λ u. k) (λ u. u) (λ u. u) (merge_up p n (join below inner) t))))) fs e

pub each_up : (p : FilePlace → Bool) (n : ℕ) (fs : Fields) → In p (each_set_can_merge n fs) → In p (within true fs)
each_up p n no_fields e = e
each_up p n (field a below next) e = split p (fields_in_set_can_merge n below ++ each_set_can_merge n below) (each_set_can_merge n next) e
    (λ q. into_below p true a below next (split p (fields_in_set_can_merge n below) (each_set_can_merge n below) q (λ r. merge_up p n below r) (λ r. each_up p n below r)))
    (λ q. into_next p true a below next (each_up p n next q))

pub standard_in_definition : (p : FilePlace → Bool) (n : ℕ) (fs : Fields) → In p (fields_in_set_can_merge n fs ++ each_set_can_merge n fs) → In p (differences fs)
standard_in_definition p n fs e = ap (list_any p) (differences_within fs) ∙ split p (fields_in_set_can_merge n fs) (each_set_can_merge n fs) e (λ q. merge_up p n fs q) (λ q. each_up p n fs q)

-- ---- the definition's places are among the standard's, for a number of at least the depth

abbrev shape_pair : ℕ → Field → Fields → Field → Fields → List FilePlace
shape_pair n a below b inner = wrong (not (same_shape a.shape b.shape)) b.place ++ same_response_shape n (join below inner)

abbrev merge_pair : ℕ → Field → Fields → Field → Fields → List FilePlace
merge_pair n a below b inner = (wrong (not (same_shape a.shape b.shape)) b.place ++ same_response_shape n (join below inner)) ++ cond (meet a.parent b.parent) (wrong (not (same_signature a.signature b.signature)) b.place ++ fields_in_set_can_merge n (join below inner)) []

abbrev pair_of : Bool → ℕ → Field → Fields → Field → Fields → List FilePlace
pair_of true n = merge_pair n
pair_of false n = shape_pair n

abbrev all_of : Bool → ℕ → Fields → List FilePlace
all_of true n fs = fields_in_set_can_merge n fs
all_of false n fs = same_response_shape n fs

all_pairs : (m : Bool) (n : ℕ) (fs : Fields) → all_of m (suc n) fs ≡ pairs (pair_of m n) fs
all_pairs true n fs = refl
all_pairs false n fs = refl

differ_shape : {P : Type 0} (a b : Field) → differ false a b ≡ true → (not (same_shape a.shape b.shape) ≡ true → P) → P
differ_shape a b e f = or_elim (not (same_shape a.shape b.shape)) false e f (λ g. nothing g)

wrong_true : (p : FilePlace → Bool) (d : Bool) (n : FilePlace) → In p (wrong d n) → d ≡ true
wrong_true p true n e = refl
wrong_true p false n e = nothing e

-- one pair
pair_low : (p : FilePlace → Bool) (m : Bool) (n : ℕ) (a : Field) (below : Fields) (b : Field) (inner : Fields)
    → ((u : Bool) → In p (crossing u below inner) → In p (all_of u n (join below inner)))
    → In p (wrong (differ (m && meet a.parent b.parent) a b) b.place ++ crossing (m && meet a.parent b.parent) below inner) → In p (pair_of m n a below b inner)
pair_low p false n a below b inner h e =
    split p (wrong (differ false a b) b.place) (crossing false below inner) e
    (λ q. left p (wrong (not (same_shape a.shape b.shape)) b.place) (same_response_shape n (join below inner))
    (wrong_more p (differ false a b) (not (same_shape a.shape b.shape)) b.place (λ r. differ_shape a b r (λ s. s)) q))
    (λ q. right p (wrong (not (same_shape a.shape b.shape)) b.place) (same_response_shape n (join below inner)) (h false q))
pair_low p true n a below b inner h e = on (meet a.parent b.parent) e where
  on : (c : Bool) → In p (wrong (differ c a b) b.place ++ crossing c below inner)
      → In p ((wrong (not (same_shape a.shape b.shape)) b.place ++ same_response_shape n (join below inner)) ++ cond c (wrong (not (same_signature a.signature b.signature)) b.place ++ fields_in_set_can_merge n (join below inner)) [])
  on false f = left p (wrong (not (same_shape a.shape b.shape)) b.place ++ same_response_shape n (join below inner)) [] (split p (wrong (differ false a b) b.place) (crossing false below inner) f
      (λ q. left p (wrong (not (same_shape a.shape b.shape)) b.place) (same_response_shape n (join below inner))
      (wrong_more p (differ false a b) (not (same_shape a.shape b.shape)) b.place (λ r. differ_shape a b r (λ s. s)) q))
      (λ q. right p (wrong (not (same_shape a.shape b.shape)) b.place) (same_response_shape n (join below inner)) (h false q)))
  on true f = split p (wrong (differ true a b) b.place) (crossing true below inner) f
      (λ q. or_elim (not (same_shape a.shape b.shape)) (not (same_signature a.signature b.signature)) (wrong_true p (differ true a b) b.place q)
      (λ r. left p (wrong (not (same_shape a.shape b.shape)) b.place ++ same_response_shape n (join below inner)) (wrong (not (same_signature a.signature b.signature)) b.place ++ fields_in_set_can_merge n (join below inner))
      (left p (wrong (not (same_shape a.shape b.shape)) b.place) (same_response_shape n (join below inner)) (wrong_more p (differ true a b) (not (same_shape a.shape b.shape)) b.place (λ s. r) q)))
      (λ r. right p (wrong (not (same_shape a.shape b.shape)) b.place ++ same_response_shape n (join below inner)) (wrong (not (same_signature a.signature b.signature)) b.place ++ fields_in_set_can_merge n (join below inner))
      (left p (wrong (not (same_signature a.signature b.signature)) b.place) (fields_in_set_can_merge n (join below inner)) (wrong_more p (differ true a b) (not (same_signature a.signature b.signature)) b.place (λ s. r) q))))
      (λ q. right p (wrong (not (same_shape a.shape b.shape)) b.place ++ same_response_shape n (join below inner)) (wrong (not (same_signature a.signature b.signature)) b.place ++ fields_in_set_can_merge n (join below inner))
      (right p (wrong (not (same_signature a.signature b.signature)) b.place) (fields_in_set_can_merge n (join below inner)) (h true q)))

against_low : (p : FilePlace → Bool) (m : Bool) (n : ℕ) (a : Field) (below : Fields)
    → ((u : Bool) (cs : Fields) → In p (crossing u below cs) → In p (all_of u n (join below cs)))
    → (bs : Fields) → In p (against m a (λ (u : Bool) (cs : Fields). crossing u below cs) bs) → In p (later (pair_of m n) a below bs)
against_low p m n a below h no_fields e = nothing e
against_low p m n a below h (field b inner next) e =
    let own : List FilePlace = wrong (differ (m && meet a.parent b.parent) a b) b.place ++ crossing (m && meet a.parent b.parent) below inner in
    split p (cond (bytes_eq a.key b.key) own []) (against m a (λ (u : Bool) (cs : Fields). crossing u below cs) next) e
    (λ q. left p (cond (bytes_eq a.key b.key) (pair_of m n a below b inner) []) (later (pair_of m n) a below next)
    (on_key p (bytes_eq a.key b.key) own q (λ k r. with_key p (bytes_eq a.key b.key) (pair_of m n a below b inner) k (pair_low p m n a below b inner (λ u s. h u inner s) r))))
    (λ q. right p (cond (bytes_eq a.key b.key) (pair_of m n a below b inner) []) (later (pair_of m n) a below next) (against_low p m n a below h next q))

crossing_low : (p : FilePlace → Bool) (us : Fields) (m : Bool) (n : ℕ) (vs : Fields) → depth us ≤ n → In p (crossing m us vs) → In p (all_of m n (join us vs))
crossing_low p no_fields m n vs h e = nothing e
crossing_low p (field a below next) m zero vs h e = absurd (omega (arith, h))
crossing_low p (field a below next) m (suc n) vs h e =
    let inside : depth below ≤ n = omega (arith, h) in
    let behind : depth next ≤ suc n = omega (arith, h) in
    ap (list_any p) (all_pairs m n (field a below (join next vs)))
    ∙ split p (against m a (λ (u : Bool) (cs : Fields). crossing u below cs) vs) (crossing m next vs) e
    (λ q. left p (later (pair_of m n) a below (join next vs)) (pairs (pair_of m n) (join next vs))
    (ap (list_any p) (later_join (pair_of m n) a below next vs)
    ∙ right p (later (pair_of m n) a below next) (later (pair_of m n) a below vs) (against_low p m n a below (λ u cs r. crossing_low p below u n cs inside r) vs q)))
    (λ q. right p (later (pair_of m n) a below (join next vs)) (pairs (pair_of m n) (join next vs))
    (sym (ap (list_any p) (all_pairs m n (join next vs))) ∙ crossing_low p next m (suc n) vs behind q))

within_low : (p : FilePlace → Bool) (fs : Fields) (n : ℕ) → depth fs ≤ n → In p (within true fs) → In p (fields_in_set_can_merge n fs ++ each_set_can_merge n fs)
within_low p no_fields n h e = nothing e
within_low p (field a below next) zero h e = absurd (omega (arith, h))
within_low p (field a below next) (suc n) h e =
    let inside : depth below ≤ n = omega (arith, h) in
    let inside_too : depth below ≤ suc n = omega (arith, h) in
    let behind : depth next ≤ suc n = omega (arith, h) in
    let here_below : List FilePlace = fields_in_set_can_merge (suc n) below ++ each_set_can_merge (suc n) below in
    let whole : List FilePlace = fields_in_set_can_merge (suc n) (field a below next) in
    let sets : List FilePlace = each_set_can_merge (suc n) (field a below next) in
    out_of p true a below next e
    (λ q. right p whole sets (left p here_below (each_set_can_merge (suc n) next) (within_low p below (suc n) inside_too q)))
    (λ q. left p whole sets (left p (later (pair_of true n) a below next) (pairs (pair_of true n) next) (against_low p true n a below (λ u cs r. crossing_low p below u n cs inside r) next q)))
    (λ q. split p (fields_in_set_can_merge (suc n) next) (each_set_can_merge (suc n) next) (within_low p next (suc n) behind q)
    (λ r. left p whole sets (right p (later (pair_of true n) a below next) (pairs (pair_of true n) next) r))
    (λ r. right p whole sets (right p here_below (each_set_can_merge (suc n) next) r)))

same_truth : (a b : Bool) → (a ≡ true → b ≡ true) → (b ≡ true → a ≡ true) → a ≡ b
same_truth true b f g = sym (f refl)
same_truth false true f g = g refl
same_truth false false f g = refl

-- the standard's form and the definition have the same places
pub as_the_standard : (p : FilePlace → Bool) (fs : Fields) (n : ℕ) → depth fs ≤ n → list_any p (fields_in_set_can_merge n fs ++ each_set_can_merge n fs) ≡ list_any p (differences fs)
as_the_standard p fs n h = same_truth (list_any p (fields_in_set_can_merge n fs ++ each_set_can_merge n fs)) (list_any p (differences fs)) (standard_in_definition p n fs)
    (λ e. within_low p fs n h (sym (ap (list_any p) (differences_within fs)) ∙ e))
