-- A type against the fields of an interface, field by field of the type.
use Rattle.std.proofs.Common.{◌≡◌, ℕ, zero, suc, ◌+◌, ◌<◌, ◌≤◌, Bool, true, false, true≢false, cond, not, ◌||◌, eqb, ltb, ne_eqb, eq-eqb, lt-ltb, le-ltb, min, List, [], ◌∷◌, ◌++◌, map, length, take, get_or, Option, Some, None, option_map, option_and_then, option_to_list, is_some, count_by, bytes_eq, refl, ap, sym, subst, ◌∙◌, arith}
use Rattle.std.proofs.lemmas.List.{take_more, take_all, length-take-le}
use Rattle.std.proofs.lemmas.List.Sums.{count_by-le-length, sum_by-cons}
use Rattle.std.specs.List.{AllByRecursion, IsDistinct, list_any}
use Rattle.schema_trees.specs.gql_ast.declared.member.FieldTree.{FieldTree}
use Rattle.gql_graph.specs.Leasts.{lower, least_from}
use Rattle.gql_graph.specs.Rules.{each, wrong}
use Rattle.gql_graph.proofs.LeastSteps.{noted-append}
use Rattle.gql_graph.proofs.TextSteps.{same_text, same_self}
use Rattle.schema_trees.specs.Located.{FieldAt}
use Rattle.schema_rules.specs.NamedAt.{field_place}
use Rattle.schema_rules.proofs.FoundAt.{placed_is_there, field_found-first}
use Rattle.schema_rules.specs.Rules.{field_found, field_differs}
use Rattle.schema_trees.specs.schema_tables.Places.{first_at}
use Rattle.schema_trees.specs.schema_tables.Types.{Text, Defs, field_named}
use Rattle.schema_trees.proofs.schema_tables_laws.Finding.{within, first_here, suc_of}

-- ---- places are noted in any order

note_after : (o : Option ℕ) (b : List ℕ) (n : ℕ) → least_from (Some (lower o n)) b ≡ Some (lower (least_from o b) n)
note_after o [] n = refl
note_after o (m ∷ b) n = ap (λ (k : ℕ). least_from (Some k) b) (turned o) ∙ note_after (Some (lower o m)) b n where
  turned : (p : Option ℕ) → min (lower p n) m ≡ min (lower p m) n
  turned None = omega arith
  turned (Some k) = omega arith

pub least_swap : (o : Option ℕ) (a b : List ℕ) → least_from (least_from o a) b ≡ least_from (least_from o b) a
least_swap o [] b = refl
least_swap o (n ∷ a) b = least_swap (Some (lower o n)) a b ∙ ap (λ (x : Option ℕ). least_from x a) (note_after o b n)

least_again : (o : Option ℕ) (n : ℕ) → least_from (least_from o (n ∷ [])) (n ∷ []) ≡ least_from o (n ∷ [])
least_again None n = ap Some (omega arith)
least_again (Some k) n = ap Some (omega arith)

-- ---- names that differ

abbrev pub names : List FieldTree → List Text
names ws = map (λ (w : FieldTree). w.name) ws

abbrev pub called : Text → FieldTree → Bool
called n w = bytes_eq w.name n

differ : (m n : Text) → bytes_eq m n ≡ false → bytes_eq n m ≡ false
differ m n e = on (bytes_eq n m) refl where
  on : (b : Bool) → bytes_eq n m ≡ b → b ≡ false
  on true h = absurd (true≢false (sym (ap (bytes_eq m) (same_text n m h) ∙ same_self m) ∙ e))
  on false h = refl

-- ---- one more field of the type

module _ (q : FieldAt → FieldTree → List ℕ) where
  -- what is due of the fields that are found
  abbrev pub of_found : List FieldAt → FieldTree → List ℕ
  of_found fs w = each (λ f. q f w) (option_to_list (field_found fs w.name))

abbrev pub has : List FieldAt → FieldTree → Bool
has fs w = is_some (field_found fs w.name)

-- B is A with one more field, which is the first of its name
record Grows (A B : List FieldAt) (f : FieldAt) : Type 0 where
  pub apart : (m : Text) → bytes_eq f.name.name m ≡ false → field_found B m ≡ field_found A m
  pub own : field_found B f.name.name ≡ Some f
  pub new : field_found A f.name.name ≡ None

same_each : (q : FieldAt → FieldTree → List ℕ) (A B : List FieldAt) (f : FieldAt) → Grows A B f → (ws : List FieldTree) → AllByRecursion (λ y. bytes_eq f.name.name y ≡ false) (names ws)
    → each (of_found q B) ws ≡ each (of_found q A) ws
same_each q A B f g [] h = refl
same_each q A B f g (w ∷ ws) h =
    ap (λ (o : Option FieldAt). each (λ f. q f w) (option_to_list o) ++ each (of_found q B) ws) (g.apart w.name h.0)
    ∙ ap (λ (l : List ℕ). of_found q A w ++ l) (same_each q A B f g ws h.1)

counted_next : (p : FieldTree → Bool) (w : FieldTree) (ws : List FieldTree) → count_by p (w ∷ ws) ≡ cond (p w) 1 0 + count_by p ws
counted_next p w ws = sum_by-cons (λ (v : FieldTree). cond (p v) 1 0) w ws

same_count : (A B : List FieldAt) (f : FieldAt) → Grows A B f → (ws : List FieldTree) → AllByRecursion (λ y. bytes_eq f.name.name y ≡ false) (names ws)
    → count_by (has B) ws ≡ count_by (has A) ws
same_count A B f g [] h = refl
same_count A B f g (w ∷ ws) h =
    counted_next (has B) w ws ∙ ap (λ (o : Option FieldAt). cond (is_some o) 1 0 + count_by (has B) ws) (g.apart w.name h.0)
    ∙ ap (λ (n : ℕ). cond (has A w) 1 0 + n) (same_count A B f g ws h.1) ∙ sym (counted_next (has A) w ws)

renamed : (m n : Text) (ws : List FieldTree) → m ≡ n → AllByRecursion (λ y. bytes_eq m y ≡ false) (names ws) → AllByRecursion (λ y. bytes_eq n y ≡ false) (names ws)
renamed m n ws e h = subst (λ (k : Text). AllByRecursion (λ y. bytes_eq k y ≡ false) (names ws)) e h

grown_places : (q : FieldAt → FieldTree → List ℕ) (A B : List FieldAt) (f : FieldAt) → Grows A B f → (ws : List FieldTree) → IsDistinct bytes_eq (names ws) → (o : Option ℕ)
    → least_from o (each (of_found q B) ws) ≡ least_from (least_from o (each (of_found q A) ws)) (each (q f) (option_to_list (field_named ws f.name.name)))
unfolding IsDistinct
grown_places q A B f g [] d o = refl
grown_places q A B f g (w ∷ ws) d o = on (λ p. grown_places q A B f g ws d.1 p) (bytes_eq w.name f.name.name) refl where
  on : ((p : Option ℕ) → least_from p (each (of_found q B) ws) ≡ least_from (least_from p (each (of_found q A) ws)) (each (q f) (option_to_list (field_named ws f.name.name))))
      → (b : Bool) → bytes_eq w.name f.name.name ≡ b
      → least_from o (of_found q B w ++ each (of_found q B) ws) ≡ least_from (least_from o (of_found q A w ++ each (of_found q A) ws)) (each (q f) (option_to_list (cond b (Some w) (field_named ws f.name.name))))
  on rest true e =
      let same : w.name ≡ f.name.name = same_text w.name f.name.name e in
      let one : List ℕ = q f w ++ [] in
      let now : of_found q B w ≡ one = ap (λ (o : Option FieldAt). each (λ f. q f w) (option_to_list o)) (ap (field_found B) same ∙ g.own) in
      let before : of_found q A w ≡ [] = ap (λ (o : Option FieldAt). each (λ f. q f w) (option_to_list o)) (ap (field_found A) same ∙ g.new) in
      ap (λ (l : List ℕ). least_from o (l ++ each (of_found q B) ws)) now ∙ ap (λ (l : List ℕ). least_from o (one ++ l)) (same_each q A B f g ws (renamed w.name f.name.name ws same d.0))
      ∙ noted-append o one (each (of_found q A) ws) ∙ least_swap o one (each (of_found q A) ws)
      ∙ ap (λ (l : List ℕ). least_from (least_from o (l ++ each (of_found q A) ws)) one) (sym before)
  on rest false e =
      let now : of_found q B w ≡ of_found q A w = ap (λ (o : Option FieldAt). each (λ f. q f w) (option_to_list o)) (g.apart w.name (differ w.name f.name.name e)) in
      ap (λ (l : List ℕ). least_from o (l ++ each (of_found q B) ws)) now ∙ noted-append o (of_found q A w) (each (of_found q B) ws) ∙ rest (least_from o (of_found q A w))
      ∙ ap (λ (x : Option ℕ). least_from x (each (q f) (option_to_list (field_named ws f.name.name)))) (sym (noted-append o (of_found q A w) (each (of_found q A) ws)))

grown_count : (A B : List FieldAt) (f : FieldAt) → Grows A B f → (ws : List FieldTree) → IsDistinct bytes_eq (names ws)
    → count_by (has B) ws ≡ count_by (has A) ws + length (option_to_list (field_named ws f.name.name))
unfolding IsDistinct
grown_count A B f g [] d = refl
grown_count A B f g (w ∷ ws) d =
    counted_next (has B) w ws ∙ on (grown_count A B f g ws d.1) (bytes_eq w.name f.name.name) refl
    ∙ ap (λ (n : ℕ). n + length (option_to_list (cond (bytes_eq w.name f.name.name) (Some w) (field_named ws f.name.name)))) (sym (counted_next (has A) w ws))
  where
    on : count_by (has B) ws ≡ count_by (has A) ws + length (option_to_list (field_named ws f.name.name)) → (b : Bool) → bytes_eq w.name f.name.name ≡ b
        → cond (has B w) 1 0 + count_by (has B) ws ≡ cond (has A w) 1 0 + count_by (has A) ws + length (option_to_list (cond b (Some w) (field_named ws f.name.name)))
    on rest true e =
        let same : w.name ≡ f.name.name = same_text w.name f.name.name e in
        let now : has B w ≡ true = ap (λ (o : Option FieldAt). is_some o) (ap (field_found B) same ∙ g.own) in
        let before : has A w ≡ false = ap (λ (o : Option FieldAt). is_some o) (ap (field_found A) same ∙ g.new) in
        let more : count_by (has B) ws ≡ count_by (has A) ws = same_count A B f g ws (renamed w.name f.name.name ws same d.0) in
        let one : cond {A = ℕ} (has B w) 1 0 ≡ 1 = ap (λ (b : Bool). cond b 1 0) now in
        let none : cond {A = ℕ} (has A w) 1 0 ≡ 0 = ap (λ (b : Bool). cond b 1 0) before in
        let sum : cond (has B w) 1 0 + count_by (has B) ws ≡ cond (has A w) 1 0 + count_by (has A) ws + 1 = omega (arith, one, none, more) in
        sum
    on rest false e =
        let now : has B w ≡ has A w = ap (λ (o : Option FieldAt). is_some o) (g.apart w.name (differ w.name f.name.name e)) in
        let same : cond {A = ℕ} (has B w) 1 0 ≡ cond {A = ℕ} (has A w) 1 0 = ap (λ (b : Bool). cond b 1 0) now in
        omega (arith, same, rest)

-- ---- the first fields of a type

has_before : (n : Text) (A : List FieldAt) (f : FieldAt) → bytes_eq f.name.name n ≡ false → field_found (A ++ f ∷ []) n ≡ field_found A n
has_before n [] f e = ap (λ (b : Bool). cond b (Some f) None) e
has_before n (a ∷ A) f e = ap (cond (bytes_eq a.name.name n) (Some a)) (has_before n A f e)

own_last : (A : List FieldAt) (f : FieldAt) → field_found A f.name.name ≡ None → field_found (A ++ f ∷ []) f.name.name ≡ Some f
own_last [] f e = ap (λ (b : Bool). cond b (Some f) None) (same_self f.name.name)
own_last (a ∷ A) f e = on (own_last A f) (bytes_eq a.name.name f.name.name) e where
  on : (field_found A f.name.name ≡ None → field_found (A ++ f ∷ []) f.name.name ≡ Some f)
      → (b : Bool) → cond b (Some a) (field_found A f.name.name) ≡ None → cond b (Some a) (field_found (A ++ f ∷ []) f.name.name) ≡ Some f
  on rest true g = cc
  on rest false g = rest g

grows_last : (A : List FieldAt) (f : FieldAt) → field_found A f.name.name ≡ None → Grows A (A ++ f ∷ []) f
grows_last A f e = record { apart = λ m h. has_before m A f h; own = own_last A f e; new = e }

stays : (f : FieldAt) (n : Text) (B : List FieldAt) → is_some (field_found B n) ≡ true → field_found (B ++ f ∷ []) n ≡ field_found B n
stays f n [] h = cc
stays f n (b ∷ B) h = on (stays f n B) (bytes_eq b.name.name n) h where
  on : (is_some (field_found B n) ≡ true → field_found (B ++ f ∷ []) n ≡ field_found B n)
      → (x : Bool) → is_some (cond x (Some b) (field_found B n)) ≡ true → cond x (Some b) (field_found (B ++ f ∷ []) n) ≡ cond x (Some b) (field_found B n)
  on rest true g = refl
  on rest false g = rest g

-- a field whose name is there changes nothing
unchanged : (A : List FieldAt) (f : FieldAt) (n : Text) → is_some (field_found A f.name.name) ≡ true → field_found (A ++ f ∷ []) n ≡ field_found A n
unchanged A f n e = on (bytes_eq f.name.name n) refl where
  on : (b : Bool) → bytes_eq f.name.name n ≡ b → field_found (A ++ f ∷ []) n ≡ field_found A n
  on true h = stays f n A (ap (λ (m : Text). is_some (field_found A m)) (sym (same_text f.name.name n h)) ∙ e)
  on false h = has_before n A f h

kept_place : (passes : FieldAt → Bool) (fs : List FieldAt) (i k : ℕ) → first_at passes (take i fs) ≡ Some k → first_at passes fs ≡ Some k
kept_place passes [] zero k e = e
kept_place passes [] (suc i) k e = e
kept_place passes (f ∷ fs) zero k e = cc
kept_place passes (f ∷ fs) (suc i) k e = on (λ n. kept_place passes fs i n) (passes f) e where
  on : ((n : ℕ) → first_at passes (take i fs) ≡ Some n → first_at passes fs ≡ Some n) → (b : Bool) → cond b (Some 0) (option_map suc (first_at passes (take i fs))) ≡ Some k → cond b (Some 0) (option_map suc (first_at passes fs)) ≡ Some k
  on rest true g = g
  on rest false g =
      let later = suc_of (first_at passes (take i fs)) k g in
      ap (option_map suc) (rest later.0 later.1) ∙ ap Some later.2

placed_is_found : (n : Text) (fs : List FieldAt) → is_some (first_at (λ (f : FieldAt). bytes_eq f.name.name n) fs) ≡ is_some (field_found fs n)
placed_is_found n fs = placed_is_there (λ (f : FieldAt). bytes_eq f.name.name n) fs ∙ ap (λ (o : Option FieldAt). is_some o) (sym (field_found-first fs n))

pub none_of_some : {X : Type 0} (o : Option X) → is_some o ≡ false → o ≡ None
none_of_some None e = refl
none_of_some (Some x) e = cc

-- the field of the interface that a field of the type is held against
abbrev pub due_once : Option ℕ → ℕ → List FieldTree → Text → Option FieldTree
due_once place i ws n = option_and_then (λ first. cond (eqb first i) (field_named ws n) None) place

-- what is noted and counted once the first fields are done
pub record Noted (q : FieldAt → FieldTree → List ℕ) (fs : List FieldAt) (ws : List FieldTree) (before : Option ℕ) (i at count : ℕ) (now : Option ℕ) : Type 0 where
  pub place : at ≡ i
  pub low : count ≤ at
  pub places : now ≡ least_from before (each (of_found q (take i fs)) ws)
  pub counted : count ≡ count_by (has (take i fs)) ws

none_found : (q : FieldAt → FieldTree → List ℕ) (ws : List FieldTree) → each (of_found q []) ws ≡ []
none_found q [] = refl
none_found q (w ∷ ws) = none_found q ws

none_counted : (ws : List FieldTree) → count_by (has []) ws ≡ 0
none_counted [] = refl
none_counted (w ∷ ws) =
    let rest : count_by (has []) ws ≡ 0 = none_counted ws in
    let none : 0 + count_by (has []) ws ≡ 0 = omega (arith, rest) in
    counted_next (has []) w ws ∙ none

pub noted_start : (q : FieldAt → FieldTree → List ℕ) (fs : List FieldAt) (ws : List FieldTree) (o : Option ℕ) → Noted q fs ws o 0 0 0 o
noted_start q fs ws o = record { place = refl; low = omega arith; places = ap (λ (l : List ℕ). least_from o l) (sym (none_found q ws)); counted = sym (none_counted ws) }

all_same : (q : FieldAt → FieldTree → List ℕ) (A B : List FieldAt) → ((n : Text) → field_found B n ≡ field_found A n) → (ws : List FieldTree) → each (of_found q B) ws ≡ each (of_found q A) ws
all_same q A B same [] = refl
all_same q A B same (w ∷ ws) =
    ap (λ (o : Option FieldAt). each (λ f. q f w) (option_to_list o) ++ each (of_found q B) ws) (same w.name)
    ∙ ap (λ (l : List ℕ). of_found q A w ++ l) (all_same q A B same ws)

all_count : (A B : List FieldAt) → ((n : Text) → field_found B n ≡ field_found A n) → (ws : List FieldTree) → count_by (has B) ws ≡ count_by (has A) ws
all_count A B same [] = refl
all_count A B same (w ∷ ws) =
    counted_next (has B) w ws ∙ ap (λ (o : Option FieldAt). cond (is_some o) 1 0 + count_by (has B) ws) (same w.name)
    ∙ ap (λ (n : ℕ). cond (has A w) 1 0 + n) (all_count A B same ws) ∙ sym (counted_next (has A) w ws)

-- what one more field of the type brings
record Brings (q : FieldAt → FieldTree → List ℕ) (A : List FieldAt) (f : FieldAt) (ws : List FieldTree) (due : Option FieldTree) : Type 0 where
  pub places : (o : Option ℕ) → least_from o (each (of_found q (A ++ f ∷ [])) ws) ≡ least_from (least_from o (each (of_found q A) ws)) (each (q f) (option_to_list due))
  pub counted : count_by (has (A ++ f ∷ [])) ws ≡ count_by (has A) ws + length (option_to_list due)

brings_new : (q : FieldAt → FieldTree → List ℕ) (A : List FieldAt) (f : FieldAt) (ws : List FieldTree) → IsDistinct bytes_eq (names ws) → field_found A f.name.name ≡ None → Brings q A f ws (field_named ws f.name.name)
brings_new q A f ws d e = record { places = λ o. grown_places q A (A ++ f ∷ []) f (grows_last A f e) ws d o; counted = grown_count A (A ++ f ∷ []) f (grows_last A f e) ws d }

same_sum : (n : ℕ) → n ≡ n + 0
same_sum n = omega arith

brings_none : (q : FieldAt → FieldTree → List ℕ) (A : List FieldAt) (f : FieldAt) (ws : List FieldTree) → is_some (field_found A f.name.name) ≡ true → Brings q A f ws None
brings_none q A f ws e = record {
  places = λ o. ap (λ (l : List ℕ). least_from o l) (all_same q A (A ++ f ∷ []) (λ n. unchanged A f n e) ws);
  counted = all_count A (A ++ f ∷ []) (λ n. unchanged A f n e) ws ∙ same_sum (count_by (has A) ws);
}

abbrev called_at : Text → FieldAt → Bool
called_at n f = bytes_eq f.name.name n

brings : (q : FieldAt → FieldTree → List ℕ) (fs : List FieldAt) (f : FieldAt) (ws : List FieldTree) (i : ℕ) → IsDistinct bytes_eq (names ws) → i < length fs → f ≡ get_or fs i f
    → Brings q (take i fs) f ws (due_once (field_place fs f.name.name) i ws f.name.name)
brings q fs f ws i d h is = on (field_place (take i fs) f.name.name) refl where
  on : (s : Option ℕ) → field_place (take i fs) f.name.name ≡ s → Brings q (take i fs) f ws (due_once (field_place fs f.name.name) i ws f.name.name)
  on None e =
      let here : field_place fs f.name.name ≡ Some i = first_here (called_at f.name.name) fs i f e h is (same_self f.name.name) in
      let new : field_found (take i fs) f.name.name ≡ None = none_of_some (field_found (take i fs) f.name.name) (sym (placed_is_found f.name.name (take i fs)) ∙ ap (λ (o : Option ℕ). is_some o) e) in
      let due : due_once (field_place fs f.name.name) i ws f.name.name ≡ field_named ws f.name.name =
      ap (λ (o : Option ℕ). due_once o i ws f.name.name) here ∙ ap (λ (b : Bool). cond b (field_named ws f.name.name) None) (eq-eqb i i refl) in
      subst (Brings q (take i fs) f ws) (sym due) (brings_new q (take i fs) f ws d new)
  on (Some k) e =
      let before : field_place fs f.name.name ≡ Some k = kept_place (called_at f.name.name) fs i k e in
      let low : k < length (take i fs) = within (called_at f.name.name) (take i fs) k e in
      let long : length (take i fs) ≡ i = length-take-le i fs (omega arith) in
      let other : eqb k i ≡ false = ne_eqb k i (λ (same : k ≡ i). absurd (omega (arith, low, long, same))) in
      let there : is_some (field_found (take i fs) f.name.name) ≡ true = sym (placed_is_found f.name.name (take i fs)) ∙ ap (λ (o : Option ℕ). is_some o) e in
      let due : due_once (field_place fs f.name.name) i ws f.name.name ≡ None =
      ap (λ (o : Option ℕ). due_once o i ws f.name.name) before ∙ ap (λ (b : Bool). cond b (field_named ws f.name.name) None) other in
      subst (Brings q (take i fs) f ws) (sym due) (brings_none q (take i fs) f ws there)

one_at_most : {X : Type 0} (o : Option X) → length (option_to_list o) ≤ 1
one_at_most None = omega arith
one_at_most (Some x) = omega arith

-- one more field of the type
pub noted_next : (q : FieldAt → FieldTree → List ℕ) (fs : List FieldAt) (ws : List FieldTree) (before : Option ℕ) (i at count more : ℕ) (old new : Option ℕ) (f : FieldAt) (due : Option FieldTree)
    → IsDistinct bytes_eq (names ws) → i < length fs → f ≡ get_or fs i f → due ≡ due_once (field_place fs f.name.name) at ws f.name.name
    → new ≡ least_from old (each (q f) (option_to_list due)) → more ≡ length (option_to_list due)
    → Noted q fs ws before i at count old → Noted q fs ws before (i + 1) (at + 1) (count + more) new
noted_next q fs ws before i at count more old new f due d h is is_due noted counted n =
    let b : Brings q (take i fs) f ws due = subst (Brings q (take i fs) f ws) (sym (is_due ∙ ap (λ (k : ℕ). due_once (field_place fs f.name.name) k ws f.name.name) n.place)) (brings q fs f ws i d h is) in
    let last : take (i + 1) fs ≡ take i fs ++ f ∷ [] = take_more fs i f h ∙ ap (λ (g : FieldAt). take i fs ++ g ∷ []) (sym is) in
    record {
      place = ap (λ (k : ℕ). k + 1) n.place;
      low = omega (arith, n.low, counted, one_at_most due);
      places = noted ∙ ap (λ (o : Option ℕ). least_from o (each (q f) (option_to_list due))) n.places ∙ sym (b.places before) ∙ ap (λ (gs : List FieldAt). least_from before (each (of_found q gs) ws)) (sym last);
      counted = ap (λ (k : ℕ). k + more) n.counted ∙ ap (λ (k : ℕ). count_by (has (take i fs)) ws + k) counted ∙ sym b.counted ∙ ap (λ (gs : List FieldAt). count_by (has gs) ws) (sym last);
    }

pub noted_places : (q : FieldAt → FieldTree → List ℕ) (fs : List FieldAt) (ws : List FieldTree) (before : Option ℕ) (i at count : ℕ) (now : Option ℕ) → length fs ≤ i → Noted q fs ws before i at count now
    → now ≡ least_from before (each (of_found q fs) ws)
noted_places q fs ws before i at count now all n = n.places ∙ ap (λ (gs : List FieldAt). least_from before (each (of_found q gs) ws)) (take_all i fs all)

pub noted_count : (q : FieldAt → FieldTree → List ℕ) (fs : List FieldAt) (ws : List FieldTree) (before : Option ℕ) (i at count : ℕ) (now : Option ℕ) → length fs ≤ i → Noted q fs ws before i at count now
    → count ≡ count_by (has fs) ws
noted_count q fs ws before i at count now all n = n.counted ∙ ap (λ (gs : List FieldAt). count_by (has gs) ws) (take_all i fs all)

-- ---- what the type lacks

abbrev lacks_one : List FieldAt → FieldTree → Bool
lacks_one fs w = not (has fs w)

none_lacks : (fs : List FieldAt) (ws : List FieldTree) → list_any (lacks_one fs) ws ≡ false → count_by (has fs) ws ≡ length ws
none_lacks fs [] e = refl
none_lacks fs (w ∷ ws) e = counted_next (has fs) w ws ∙ on (none_lacks fs ws) (has fs w) e where
  on : (list_any (lacks_one fs) ws ≡ false → count_by (has fs) ws ≡ length ws) → (b : Bool) → (not b || list_any (lacks_one fs) ws) ≡ false → cond b 1 0 + count_by (has fs) ws ≡ suc (length ws)
  on rest true h =
      let all : count_by (has fs) ws ≡ length ws = rest h in
      let sum : 1 + count_by (has fs) ws ≡ suc (length ws) = omega (arith, all) in
      sum
  on rest false h = cc

one_lacks : (fs : List FieldAt) (ws : List FieldTree) → list_any (lacks_one fs) ws ≡ true → count_by (has fs) ws < length ws
one_lacks fs [] e = cc
one_lacks fs (w ∷ ws) e = subst (λ (n : ℕ). n < suc (length ws)) (sym (counted_next (has fs) w ws)) (on (one_lacks fs ws) (has fs w) e) where
  most : count_by (has fs) ws ≤ length ws
  most = count_by-le-length (has fs) ws

  on : (list_any (lacks_one fs) ws ≡ true → count_by (has fs) ws < length ws) → (b : Bool) → (not b || list_any (lacks_one fs) ws) ≡ true → cond b 1 0 + count_by (has fs) ws < suc (length ws)
  on rest true h =
      let less : count_by (has fs) ws < length ws = rest h in
      let sum : 1 + count_by (has fs) ws < suc (length ws) = omega (arith, less) in
      sum
  on rest false h =
      let sum : 0 + count_by (has fs) ws < suc (length ws) = omega (arith, most) in
      sum

-- a type lacks a field exactly where it has fewer than are wanted
lacks_counted : (fs : List FieldAt) (ws : List FieldTree) → ltb (count_by (has fs) ws) (length ws) ≡ list_any (lacks_one fs) ws
lacks_counted fs ws = on (list_any (lacks_one fs) ws) refl where
  on : (b : Bool) → list_any (lacks_one fs) ws ≡ b → ltb (count_by (has fs) ws) (length ws) ≡ b
  on true e = lt-ltb (count_by (has fs) ws) (length ws) (one_lacks fs ws e)
  on false e = let all : count_by (has fs) ws ≡ length ws = none_lacks fs ws e in le-ltb (count_by (has fs) ws) (length ws) (omega (arith, all))

wrong_swap : (o : Option ℕ) (l : List ℕ) (b : Bool) (at : ℕ) → least_from (least_from (least_from o (at ∷ [])) l) (wrong b at) ≡ least_from (least_from o l) (at ∷ [])
wrong_swap o l false at = least_swap o (at ∷ []) l
wrong_swap o l true at = ap (λ (x : Option ℕ). least_from x (at ∷ [])) (least_swap o (at ∷ []) l) ∙ least_again (least_from o l) at

module _ (defs : Defs) where
  abbrev pub found_differs : FieldAt → FieldTree → List ℕ
  found_differs f w = field_differs defs 0 (Some f) w

-- what is noted of the fields that are found, and the place of the type where it lacks one
lacks_noted : (defs : Defs) (at : ℕ) (fs : List FieldAt) (ws : List FieldTree) (o : Option ℕ)
    → least_from o (each (λ w. field_differs defs at (field_found fs w.name) w) ws) ≡ least_from (least_from o (each (of_found (found_differs defs) fs) ws)) (wrong (list_any (lacks_one fs) ws) at)
lacks_noted defs at fs [] o = refl
lacks_noted defs at fs (w ∷ ws) o =
    on (each (λ v. field_differs defs at (field_found fs v.name) v) ws) (each (of_found (found_differs defs) fs) ws) (λ p. lacks_noted defs at fs ws p) (field_found fs w.name)
  where
    on : (due have : List ℕ) → ((p : Option ℕ) → least_from p due ≡ least_from (least_from p have) (wrong (list_any (lacks_one fs) ws) at)) → (r : Option FieldAt) → least_from o (field_differs defs at r w ++ due)
        ≡ least_from (least_from o (each (λ f. found_differs defs f w) (option_to_list r) ++ have)) (wrong (not (is_some r) || list_any (lacks_one fs) ws) at)
    on due have rest None = rest (least_from o (at ∷ [])) ∙ wrong_swap o have (list_any (lacks_one fs) ws) at
    on due have rest (Some f) =
        noted-append o (found_differs defs f w) due ∙ rest (least_from o (found_differs defs f w))
        ∙ ap (λ (x : Option ℕ). least_from (least_from x have) (wrong (list_any (lacks_one fs) ws) at)) (sym (noted-append o (found_differs defs f w) []))
        ∙ ap (λ (x : Option ℕ). least_from x (wrong (list_any (lacks_one fs) ws) at)) (sym (noted-append o (found_differs defs f w ++ []) have))

-- the count decides whether the type lacks one
pub lacks_by_count : (defs : Defs) (at : ℕ) (fs : List FieldAt) (ws : List FieldTree) (o p r : Option ℕ) (count : ℕ)
    → p ≡ least_from o (each (of_found (found_differs defs) fs) ws) → count ≡ count_by (has fs) ws → r ≡ least_from p (wrong (ltb count (length ws)) at)
    → r ≡ least_from o (each (λ w. field_differs defs at (field_found fs w.name) w) ws)
lacks_by_count defs at fs ws o p r count noted counted is =
    is ∙ ap (λ (x : Option ℕ). least_from x (wrong (ltb count (length ws)) at)) noted
    ∙ ap (λ (b : Bool). least_from (least_from o (each (of_found (found_differs defs) fs) ws)) (wrong b at)) (ap (λ (k : ℕ). ltb k (length ws)) counted ∙ lacks_counted fs ws)
    ∙ sym (lacks_noted defs at fs ws o)
