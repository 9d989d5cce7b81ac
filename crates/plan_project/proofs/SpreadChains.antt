-- Where the rules on names hold, each spread is found, and no more spreads stand in one another than there are fragments.
use Rattle.std.proofs.Common.{◌≡◌, ◌≤◌, ℕ, zero, suc, ◌+◌, ◌-◌, Bool, true, false, true≢false, cond, not, ◌||◌, List, [], ◌∷◌, ◌++◌, map, length, Option, Some, bytes_eq, refl, sym, ap, subst, ◌∙◌, arith}
use Rattle.std.specs.List.{AllByRecursion, list_any}
use Rattle.plan_ir.specs.gql_ast.Sels as sels
use Rattle.plan_ir.specs.gql_ast.Sels.{Sels}
use Rattle.plan_ir.proofs.gql_graph_laws.TextSteps.{same_text, same_self, either_of, some_of}
use Rattle.plan_ir.specs.gql_graph.Reached.{leads}
use Rattle.plan_ir.proofs.gql_plain_laws.Booleans.{or_true}
use Rattle.plan_ir.specs.gql_plain.Order.{has_text}
use Rattle.plan_ir.specs.schema_rules.Rules.{each, wrong}
use Rattle.plan_ir.specs.schema_trees.Located.{Located, directives_nodes}
use Rattle.plan_ir.specs.schema_types.NameRules.{fragment_named, leads_back, names_of_all, not_there, spread_by, spreads_in, spreads_of_fragment}
use Rattle.plan_ir.specs.schema_types.Sites as site
use Rattle.plan_ir.specs.schema_types.Sites.{Site, FragmentAt, arguments_nodes, below, condition_or, head_nodes, optional_name_nodes, selections_nodes, sites}
use Rattle.plan_ir.specs.schema_tables.Types.{Text, Defs}

-- ---- lists

pub all_map : {A : Type 0} (P Q : A → Type 0) → ((x : A) → P x → Q x) → (xs : List A) → AllByRecursion P xs → AllByRecursion Q xs
all_map P Q f [] h = tt
all_map P Q f (x ∷ xs) h = (f x h.0, all_map P Q f xs h.1)

all_both : {A : Type 0} (P Q : A → Type 0) (xs : List A) → AllByRecursion P xs → AllByRecursion Q xs → AllByRecursion (λ x. P x × Q x) xs
all_both P Q [] h k = tt
all_both P Q (x ∷ xs) h k = ((h.0, k.0), all_both P Q xs h.1 k.1)

pub none_first : {A : Type 0} (xs ys : List A) → xs ++ ys ≡ [] → xs ≡ []
none_first [] ys e = refl
none_first (x ∷ xs) ys e = cc

pub none_then : {A : Type 0} (xs ys : List A) → xs ++ ys ≡ [] → ys ≡ []
none_then [] ys e = e
none_then (x ∷ xs) ys e = cc

pub none_each : {A B : Type 0} (f : A → List B) (xs : List A) → each f xs ≡ [] → AllByRecursion (λ x. f x ≡ []) xs
none_each f [] e = tt
none_each f (x ∷ xs) e = (none_first (f x) (each f xs) e, none_each f xs (none_then (f x) (each f xs) e))

by_cases : {P : Type 0} (b : Bool) → (b ≡ true → P) → (b ≡ false → P) → P
by_cases true f g = f refl
by_cases false f g = g refl

-- ---- the spreads of a set

-- each spread, also of inner sets, is such
abbrev pub AllSpreads : (Text → Type 0) → Sels → Type 0
AllSpreads P sels.end = Unit {0}
AllSpreads P (sels.field a n xs ds s rest) = AllSpreads P s × AllSpreads P rest
AllSpreads P (sels.spread n ds rest) = P n × AllSpreads P rest
AllSpreads P (sels.inline o ds s rest) = AllSpreads P s × AllSpreads P rest

parts : (P : Located → Type 0) (ss ts : List Site) → AllByRecursion P (spreads_in (ss ++ ts)) → AllByRecursion P (spreads_in ss) × AllByRecursion P (spreads_in ts)
parts P [] ts h = (tt, h)
parts P (site.field around a n xs ds b ∷ ss) ts h = parts P ss ts h
parts P (site.spread around n ds ∷ ss) ts h = let r = parts P ss ts h.1 in ((h.0, r.0), r.1)
parts P (site.inline around first o ds ∷ ss) ts h = parts P ss ts h

pub all_spreads : (P : Text → Type 0) (defs : Defs) (from : ℕ) (around : Option Text) (s : Sels)
    → AllByRecursion (λ (l : Located). P l.name) (spreads_in (sites defs from around s)) → AllSpreads P s
all_spreads P defs from around sels.end h = tt
all_spreads P defs from around (sels.field a n xs ds s rest) h =
    let inside : ℕ = from + head_nodes a + arguments_nodes xs + directives_nodes ds in
    let r = parts (λ (l : Located). P l.name) (sites defs inside (below defs around n) s) (sites defs (inside + selections_nodes s) around rest) h in
    (all_spreads P defs inside (below defs around n) s r.0, all_spreads P defs (inside + selections_nodes s) around rest r.1)
all_spreads P defs from around (sels.spread n ds rest) h = (h.0, all_spreads P defs (from + 2 + directives_nodes ds) around rest h.1)
all_spreads P defs from around (sels.inline o ds s rest) h =
    let inside : ℕ = from + 1 + optional_name_nodes o + directives_nodes ds in
    let r = parts (λ (l : Located). P l.name) (sites defs inside (condition_or around o) s) (sites defs (inside + selections_nodes s) around rest) h in
    (all_spreads P defs inside (condition_or around o) s r.0, all_spreads P defs (inside + selections_nodes s) around rest r.1)

pub spreads_map : (P Q : Text → Type 0) → ((n : Text) → P n → Q n) → (s : Sels) → AllSpreads P s → AllSpreads Q s
spreads_map P Q f sels.end h = tt
spreads_map P Q f (sels.field a n xs ds s rest) h = (spreads_map P Q f s h.0, spreads_map P Q f rest h.1)
spreads_map P Q f (sels.spread n ds rest) h = (f n h.0, spreads_map P Q f rest h.1)
spreads_map P Q f (sels.inline o ds s rest) h = (spreads_map P Q f s h.0, spreads_map P Q f rest h.1)

-- ---- what a name leads to

has_some : (p : Text → Bool) (ns : List Text) (m : Text) → has_text ns m ≡ true → p m ≡ true → list_any p ns ≡ true
has_some p [] m h e = absurd (true≢false (sym h))
has_some p (n ∷ ns) m h e = either_of (bytes_eq n m) (has_text ns m) h
    (λ g. ap (λ b. b || list_any p ns) (ap p (same_text n m g) ∙ e))
    (λ g. ap (λ b. p n || b) (has_some p ns m g e) ∙ or_true (p n))

leads_itself : (next : Text → List Text) (k : ℕ) (n : Text) → leads next k n n ≡ true
leads_itself next zero n = same_self n
leads_itself next (suc k) n = ap (λ b. b || list_any (λ x. leads next k x n) (next n)) (same_self n)

leads_next : (next : Text → List Text) (k : ℕ) (n m to : Text) → has_text (next n) m ≡ true → leads next k m to ≡ true → leads next (suc k) n to ≡ true
leads_next next k n m to h e = ap (λ b. bytes_eq n to || b) (has_some (λ x. leads next k x to) (next n) m h e) ∙ or_true (bytes_eq n to)

leads_same : (next : Text → List Text) (k : ℕ) (n to : Text) → bytes_eq n to ≡ true → leads next k n to ≡ true
leads_same next k n to e = ap (λ (t : Text). leads next k n t) (sym (same_text n to e)) ∙ leads_itself next k n

leads_more : (next : Text → List Text) (k : ℕ) (n to : Text) → leads next k n to ≡ true → leads next (suc k) n to ≡ true
leads_more next zero n to e = leads_same next 1 n to e
leads_more next (suc k) n to e = either_of (bytes_eq n to) (list_any (λ x. leads next k x to) (next n)) e
    (λ g. leads_same next (suc (suc k)) n to g)
    (λ g. some_of (λ x. leads next k x to) (next n) g (λ x i j. leads_next next (suc k) n x to i (leads_more next k x to j)))

leads_within : (next : Text → List Text) (k more : ℕ) (n to : Text) → leads next k n to ≡ true → leads next (more + k) n to ≡ true
leads_within next k zero n to e = let same : k ≡ 0 + k = omega arith in subst (λ j. leads next j n to ≡ true) same e
leads_within next k (suc more) n to e =
    let same : suc (more + k) ≡ suc more + k = omega arith in
    subst (λ j. leads next j n to ≡ true) same (leads_more next (more + k) n to (leads_within next k more n to e))

leads_at_most : (next : Text → List Text) (k all : ℕ) (n to : Text) → k ≤ all → leads next k n to ≡ true → leads next all n to ≡ true
leads_at_most next k all n to h e =
    let same : all - k + k ≡ all = omega arith in
    subst (λ j. leads next j n to ≡ true) same (leads_within next k (all - k) n to e)

-- one step behind the others
leads_on : (next : Text → List Text) (k : ℕ) (m g n : Text) → leads next k m g ≡ true → has_text (next g) n ≡ true → leads next (suc k) m n ≡ true
leads_on next zero m g n e h =
    leads_next next 0 m n n (ap (λ (t : Text). has_text (next t) n) (same_text m g e) ∙ h) (leads_itself next 0 n)
leads_on next (suc k) m g n e h = either_of (bytes_eq m g) (list_any (λ x. leads next k x g) (next m)) e
    (λ i. leads_next next (suc k) m n n (ap (λ (t : Text). has_text (next t) n) (same_text m g i) ∙ h) (leads_itself next (suc k) n))
    (λ i. some_of (λ x. leads next k x g) (next m) i (λ x a b. leads_next next (suc k) m x n a (leads_on next k x g n b h)))

-- ---- how many of the names are not seen

abbrev left : (seen names : List Text) → ℕ
left seen [] = 0
left seen (n ∷ ns) = cond (has_text seen n) (left seen ns) (1 + left seen ns)

count_more : (a b : Bool) (now before : ℕ) → now ≤ before → cond {A = ℕ} (a || b) now (1 + now) ≤ cond {A = ℕ} b before (1 + before)
count_more true true now before h = h
count_more true false now before h = omega (arith, h)
count_more false true now before h = h
count_more false false now before h = omega (arith, h)

count_less : (a b : Bool) (now before : ℕ) → 1 + now ≤ before → 1 + cond {A = ℕ} (a || b) now (1 + now) ≤ cond {A = ℕ} b before (1 + before)
count_less true true now before h = h
count_less true false now before h = omega (arith, h)
count_less false true now before h = h
count_less false false now before h = omega (arith, h)

count_here : (a b : Bool) (now before : ℕ) → a ≡ true → b ≡ false → now ≤ before → 1 + cond {A = ℕ} (a || b) now (1 + now) ≤ cond {A = ℕ} b before (1 + before)
count_here true true now before p q h = absurd (true≢false q)
count_here true false now before p q h = omega (arith, h)
count_here false b now before p q h = absurd (true≢false (sym p))

left_more : (seen names : List Text) (n : Text) → left (n ∷ seen) names ≤ left seen names
left_more seen [] n = omega arith
left_more seen (x ∷ xs) n = count_more (bytes_eq n x) (has_text seen x) (left (n ∷ seen) xs) (left seen xs) (left_more seen xs n)

left_less : (seen names : List Text) (n : Text) → has_text names n ≡ true → has_text seen n ≡ false → 1 + left (n ∷ seen) names ≤ left seen names
left_less seen [] n h e = absurd (true≢false (sym h))
left_less seen (x ∷ xs) n h e = either_of (bytes_eq x n) (has_text xs n) h
    (λ g.
    let same : x ≡ n = same_text x n g in
    count_here (bytes_eq n x) (has_text seen x) (left (n ∷ seen) xs) (left seen xs) (ap (λ (t : Text). bytes_eq n t) same ∙ same_self n) (ap (has_text seen) same ∙ e) (left_more seen xs n))
    (λ g. count_less (bytes_eq n x) (has_text seen x) (left (n ∷ seen) xs) (left seen xs) (left_less seen xs n g e))

left_all : (names : List Text) → left [] names ≤ length names
left_all [] = omega arith
left_all (x ∷ xs) = omega (arith, left_all xs)

-- ---- fragments by their names

abbrev pub names_of : List FragmentAt → List Text
names_of fs = names_of_all (map (λ (f : FragmentAt). f.name) fs)

names_length : (fs : List FragmentAt) → length (names_of fs) ≡ length fs
names_length [] = refl
names_length (f ∷ fs) = omega (arith, names_length fs)

pub record Found (fs : List FragmentAt) (n : Text) : Type 0 where
  pub fragment : FragmentAt
  pub is : fragment_named fs n ≡ Some fragment

found_in : (fs : List FragmentAt) (n : Text) → has_text (names_of fs) n ≡ true → Found fs n
found_in [] n h = absurd (true≢false (sym h))
found_in (f ∷ fs) n h = on (λ k. found_in fs n k) (bytes_eq f.name.name n) refl h
  where
    on : (has_text (names_of fs) n ≡ true → Found fs n) → (b : Bool) → bytes_eq f.name.name n ≡ b → (b || has_text (names_of fs) n) ≡ true → Found (f ∷ fs) n
    on later true e h = record { fragment = f; is = ap (λ b. cond b (Some f) (fragment_named fs n)) e }
    on later false e h = let r = later h in record { fragment = r.fragment; is = ap (λ b. cond b (Some f) (fragment_named fs n)) e ∙ r.is }

-- what holds of each fragment holds of the one that is found, and it has that name
pub all_found : (P : FragmentAt → Type 0) (fs : List FragmentAt) (n : Text) (f : FragmentAt) → AllByRecursion P fs → fragment_named fs n ≡ Some f → P f × (f.name.name ≡ n)
all_found P [] n f h e = absurd cc
all_found P (g ∷ gs) n f h e = on (λ k. all_found P gs n f h.1 k) (bytes_eq g.name.name n) refl e
  where
    on : (fragment_named gs n ≡ Some f → P f × (f.name.name ≡ n)) → (b : Bool) → bytes_eq g.name.name n ≡ b → cond b (Some g) (fragment_named gs n) ≡ Some f → P f × (f.name.name ≡ n)
    on later true d e = let same : g ≡ f = cc e in (subst P same h.0, ap (λ (x : FragmentAt). x.name.name) (sym same) ∙ same_text g.name.name n d)
    on later false d e = later e

has_each : (ls : List Located) → AllByRecursion (λ (l : Located). has_text (names_of_all ls) l.name ≡ true) ls
has_each [] = tt
has_each (l ∷ ls) = (
  ap (λ b. b || has_text (names_of_all ls) l.name) (same_self l.name),
  all_map (λ (m : Located). has_text (names_of_all ls) m.name ≡ true) (λ (m : Located). has_text (names_of_all (l ∷ ls)) m.name ≡ true)
      (λ m h. ap (λ b. bytes_eq l.name m.name || b) h ∙ or_true (bytes_eq l.name m.name)) ls (has_each ls),
)

-- ---- chains of spreads

-- at most so many spreads stand in one another, and each is found
abbrev pub Bounded : List FragmentAt → (spreads : ℕ) → Sels → Type 0
Bounded fs zero s = AllSpreads (λ n. ⊥) s
Bounded fs (suc k) s = AllSpreads (λ n. (f : FragmentAt) × (fragment_named fs n ≡ Some f) × Bounded fs k f.selections) s

-- the sites of a fragment are those of its selections
pub record HasSites (defs : Defs) (f : FragmentAt) : Type 0 where
  pub from : ℕ
  pub around : Option Text
  pub are : f.sites ≡ sites defs from around f.selections

-- what the rules say of each fragment
pub record Meets (defs : Defs) (fs : List FragmentAt) (f : FragmentAt) : Type 0 where
  pub sites : HasSites defs f
  pub there : each (not_there (names_of fs)) (spreads_in f.sites) ≡ []
  pub acyclic : each (leads_back fs f) (spreads_in f.sites) ≡ []

right : (b : Bool) (at : ℕ) → wrong (not b) at ≡ [] → b ≡ true
right true at e = refl
right false at e = cc

not_so : (b : Bool) (at : ℕ) → wrong b at ≡ [] → b ≡ false
not_so true at e = cc
not_so false at e = refl

pub all_there : (names : List Text) (ls : List Located) → each (not_there names) ls ≡ [] → AllByRecursion (λ (l : Located). has_text names l.name ≡ true) ls
all_there names ls e =
    all_map (λ l. not_there names l ≡ []) (λ (l : Located). has_text names l.name ≡ true) (λ l h. right (has_text names l.name) l.at h) ls (none_each (not_there names) ls e)

module _ (defs : Defs) (fs : List FragmentAt) (meet : AllByRecursion (Meets defs fs) fs) where
  abbrev next : Text → List Text
  next = spread_by fs

  -- what holds of a spread in the fragment of the name
  record Steps (g n : Text) : Type 0 where
    there : has_text (names_of fs) n ≡ true
    acyclic : leads next (length fs) n g ≡ false
    step : has_text (next g) n ≡ true

  steps : (g : Text) (f : FragmentAt) → fragment_named fs g ≡ Some f → AllSpreads (Steps g) f.selections
  steps g f e =
      let m = all_found (Meets defs fs) fs g f meet e in
      let there : AllByRecursion (λ (l : Located). has_text (names_of fs) l.name ≡ true) (spreads_in f.sites) = all_there (names_of fs) (spreads_in f.sites) m.0.there in
      let acyclic : AllByRecursion (λ (l : Located). leads_back fs f l ≡ []) (spreads_in f.sites) = none_each (leads_back fs f) (spreads_in f.sites) m.0.acyclic in
      let both = all_both _ _ (spreads_in f.sites) there (all_both _ _ (spreads_in f.sites) acyclic (has_each (spreads_in f.sites))) in
      let all : AllByRecursion (λ (l : Located). Steps g l.name) (spreads_in f.sites) =
      all_map _ (λ (l : Located). Steps g l.name)
      (λ l h. record {
        there = h.0;
        acyclic = ap (λ (t : Text). leads next (length fs) l.name t) (sym m.1) ∙ not_so (leads next (length fs) l.name f.name.name) l.at h.1.0;
        step = ap (λ (o : Option FragmentAt). has_text (spreads_of_fragment o) l.name) e ∙ h.1.1;
      }) (spreads_in f.sites) both in
      let s = m.0.sites in
      all_spreads (Steps g) defs s.from s.around f.selections (subst (λ ss. AllByRecursion (λ (l : Located). Steps g l.name) (spreads_in ss)) s.are all)

  -- all that are seen lead to the name
  abbrev IsChain : (seen : List Text) → (steps : ℕ) → Text → Type 0
  IsChain seen j g = (m : Text) → has_text seen m ≡ true → leads next j m g ≡ true

  not_seen : (seen : List Text) (j k : ℕ) (g n : Text) → j + k ≤ length fs → IsChain seen j g → Steps g n → has_text seen n ≡ false
  not_seen seen j k g n t chain s = by_cases (has_text seen n)
      (λ h. absurd (true≢false (sym (leads_at_most next j (length fs) n g (omega (arith, t)) (chain n h)) ∙ s.acyclic)))
      (λ h. h)

  further : (seen : List Text) (j : ℕ) (g n : Text) → IsChain seen j g → Steps g n → IsChain (n ∷ seen) (suc j) n
  further seen j g n chain s m h = either_of (bytes_eq n m) (has_text seen m) h
      (λ e. ap (λ (t : Text). leads next (suc j) t n) (sym (same_text n m e)) ∙ leads_itself next (suc j) n)
      (λ e. leads_on next j m g n (chain m e) s.step)

  abbrev IsBounded : ℕ → Text → Type 0
  IsBounded k n = (f : FragmentAt) × (fragment_named fs n ≡ Some f) × Bounded fs k f.selections

  bounded : (k j : ℕ) (seen : List Text) (g : Text) (f : FragmentAt) → fragment_named fs g ≡ Some f → left seen (names_of fs) ≤ k → j + k ≤ length fs → IsChain seen j g
      → Bounded fs k f.selections
  bounded zero j seen g f e l t chain = spreads_map (Steps g) (λ n. ⊥)
      (λ n s.
      let less = left_less seen (names_of fs) n s.there (not_seen seen j 0 g n t chain s) in
      absurd (omega (arith, l, less)))
      f.selections (steps g f e)
  bounded (suc k) j seen g f e l t chain = spreads_map (Steps g) (IsBounded k)
      (λ n s.
      let less = left_less seen (names_of fs) n s.there (not_seen seen j (suc k) g n t chain s) in
      let r = found_in fs n s.there in
      (r.fragment, r.is, bounded k (suc j) (n ∷ seen) n r.fragment r.is (omega (arith, l, less)) (omega (arith, t)) (further seen j g n chain s)))
      f.selections (steps g f e)

  -- a set whose spreads name fragments
  pub all_bounded : (from : ℕ) (around : Option Text) (s : Sels) → each (not_there (names_of fs)) (spreads_in (sites defs from around s)) ≡ []
      → Bounded fs (length fs) s
  all_bounded from around s e =
      on (length fs) refl (all_spreads (λ n. has_text (names_of fs) n ≡ true) defs from around s (all_there (names_of fs) (spreads_in (sites defs from around s)) e))
    where
      alone : (n m : Text) → has_text (n ∷ []) m ≡ true → leads next 1 m n ≡ true
      alone n m h = either_of (bytes_eq n m) false h
          (λ e. ap (λ (t : Text). leads next 1 t n) (sym (same_text n m e)) ∙ leads_itself next 1 n)
          (λ e. absurd (true≢false (sym e)))

      on : (k : ℕ) → length fs ≡ k → AllSpreads (λ n. has_text (names_of fs) n ≡ true) s → Bounded fs k s
      on zero d h = spreads_map (λ n. has_text (names_of fs) n ≡ true) (λ n. ⊥)
          (λ n h.
          let less = left_less [] (names_of fs) n h refl in
          absurd (omega (arith, d, less, left_all (names_of fs), names_length fs)))
          s h
      on (suc k) d h = spreads_map (λ n. has_text (names_of fs) n ≡ true) (IsBounded k)
          (λ n h.
          let less = left_less [] (names_of fs) n h refl in
          let r = found_in fs n h in
          (r.fragment, r.is, bounded k 1 (n ∷ []) n r.fragment r.is (omega (arith, d, less, left_all (names_of fs), names_length fs)) (omega (arith, d)) (alone n)))
          s h
