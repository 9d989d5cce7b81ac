-- Where all numbers of the parts are below a number, so are those of lists of places that are made of the parts.
use Rattle.std.proofs.Common.{◌≡◌, ℕ, ◌<◌, Bool, true, false, cond, List, [], ◌∷◌, ◌++◌, map, Option, Some, None, option_map, filter, subst, refl, arith}
use Rattle.std.specs.List.{AllByRecursion, filter_map, cons_option}
use Rattle.schema_tables.specs.gql_plain.Order.{has_text}
use Rattle.schema_tables.specs.gql_graph.Rules.{each, wrong, least, first_broken}
use Rattle.schema_tables.specs.gql_graph.Texts.{Text}
use Rattle.schema_trees.specs.DefinitionParts.{repeats}
use Rattle.schema_trees.specs.Located.{Located}
use Rattle.schema_trees.specs.Numbers.{Below}

-- what holds of an element where there is one
abbrev pub IfThere : {A : Type 0} → (A → Type 0) → Option A → Type 0
IfThere P None = Unit {0}
IfThere P (Some a) = P a

-- ---- what holds of all elements

pub all_append : {A : Type 0} (P : A → Type 0) (xs ys : List A) → AllByRecursion P xs → AllByRecursion P ys → AllByRecursion P (xs ++ ys)
all_append P [] ys h g = g
all_append P (x ∷ xs) ys h g = (h.0, all_append P xs ys h.1 g)

pub all_each : {A B : Type 0} (P : A → Type 0) (Q : B → Type 0) (f : A → List B) → ((a : A) → P a → AllByRecursion Q (f a))
    → (xs : List A) → AllByRecursion P xs → AllByRecursion Q (each f xs)
all_each P Q f h [] g = tt
all_each P Q f h (x ∷ xs) g = all_append Q (f x) (each f xs) (h x g.0) (all_each P Q f h xs g.1)

pub all_map : {A B : Type 0} (P : A → Type 0) (Q : B → Type 0) (f : A → B) → ((a : A) → P a → Q (f a)) → (xs : List A) → AllByRecursion P xs → AllByRecursion Q (map f xs)
all_map P Q f h [] g = tt
all_map P Q f h (x ∷ xs) g = (h x g.0, all_map P Q f h xs g.1)

pub all_filter : {A : Type 0} (P : A → Type 0) (test : A → Bool) (xs : List A) → AllByRecursion P xs → AllByRecursion P (filter test xs)
all_filter P test [] h = tt
all_filter P test (x ∷ xs) h = split (test x) (all_filter P test xs h.1) where
  split : (b : Bool) → AllByRecursion P (filter test xs) → AllByRecursion P (cond b (x ∷ filter test xs) (filter test xs))
  split true g = (h.0, g)
  split false g = g

pub all_filter_map : {A B : Type 0} (P : A → Type 0) (Q : B → Type 0) (f : A → Option B) → ((a : A) → P a → IfThere Q (f a)) → (xs : List A) → AllByRecursion P xs
    → AllByRecursion Q (filter_map f xs)
all_filter_map P Q f h [] g = tt
all_filter_map {B = B} P Q f h (x ∷ xs) g = split (f x) (h x g.0) (all_filter_map P Q f h xs g.1) where
  split : (o : Option B) → IfThere Q o → AllByRecursion Q (filter_map f xs) → AllByRecursion Q (cons_option o (filter_map f xs))
  split None p q = q
  split (Some y) p q = (p, q)

-- ---- places

module _ (m : ℕ) where
  pub below_append : (xs ys : List ℕ) → Below m xs → Below m ys → Below m (xs ++ ys)
  below_append xs ys h g = all_append (λ n. n < m) xs ys h g

  pub below_wrong : (b : Bool) (n : ℕ) → n < m → Below m (wrong b n)
  below_wrong true n h = (h, tt)
  below_wrong false n h = tt

  pub below_cond : (b : Bool) (xs ys : List ℕ) → Below m xs → Below m ys → Below m (cond b xs ys)
  below_cond true xs ys h g = h
  below_cond false xs ys h g = g

  pub below_each : {A : Type 0} (P : A → Type 0) (f : A → List ℕ) → ((a : A) → P a → Below m (f a)) → (xs : List A) → AllByRecursion P xs → Below m (each f xs)
  below_each P f h xs g = all_each P (λ n. n < m) f h xs g

  pub below_every : {A : Type 0} (f : A → List ℕ) → ((a : A) → Below m (f a)) → (xs : List A) → Below m (each f xs)
  below_every f h [] = tt
  below_every f h (x ∷ xs) = below_append (f x) (each f xs) (h x) (below_every f h xs)

  pub below_repeats : (before : List Text) (ns : List Located) → AllByRecursion (λ (n : Located). n.at < m) ns → Below m (repeats before ns)
  below_repeats before [] h = tt
  below_repeats before (n ∷ ns) h =
      below_cond (has_text before n.name) (n.at ∷ repeats before ns) (repeats (n.name ∷ before) ns) (h.0, below_repeats before ns h.1) (below_repeats (n.name ∷ before) ns h.1)

  -- ---- the least place, and that of the first rule that does not hold

  below_least : (xs : List ℕ) → Below m xs → IfThere (λ n. n < m) (least xs)
  below_least [] h = tt
  below_least (x ∷ xs) h = split (least xs) refl (below_least xs h.1) where
    split : (o : Option ℕ) → least xs ≡ o → IfThere (λ n. n < m) o → IfThere (λ n. n < m) (least (x ∷ xs))
    split None e g = rw e h.0
    split (Some y) e g = rw e (omega (arith, h.0))

  pub below_first : {R : Type 0} (rs : List (R × List ℕ)) → AllByRecursion (λ (r : R × List ℕ). Below m r.1) rs → (found : R × ℕ) → first_broken rs ≡ Some found → found.1 < m
  below_first [] h found e = cc
  below_first ((r, []) ∷ rs) h found e = below_first rs h.1 found e
  below_first {R = R} ((r, n ∷ ns) ∷ rs) h found e = split (least (n ∷ ns)) (below_least (n ∷ ns) h.0) e where
    split : (o : Option ℕ) → IfThere (λ k. k < m) o → option_map (λ at. (r, at)) o ≡ Some found → found.1 < m
    split None g i = cc
    split (Some k) g i = let same : (r, k) ≡ found = cc i in subst (λ (q : R × ℕ). q.1 < m) same g
