-- Graphs that names are put into one after the other.
use Rattle.std.proofs.Common.{◌≡◌, ℕ, ◌+◌, ◌<◌, ◌≤◌, Bool, true, false, true≢false, cond, List, [], ◌∷◌, ◌++◌, append_assoc, map, drop, length, get_or, add-one, Option, Some, None, option_map, is_some, unwrap_or, bytes_eq, refl, ap, sym, subst, ◌∙◌}
use Rattle.std.proofs.Math.Seq.{drop-cons}
use Rattle.std.proofs.lemmas.List.{append-nil, drop_all}
use Rattle.std.specs.Option.{UnwrapsOrElse}
use Rattle.gql_graph.specs.Graphs.{first_next, next_in, links_of, Holds, Tells}
use Rattle.gql_graph.specs.Rules.{each}
use Rattle.gql_graph.specs.Texts.{Text}
use Rattle.gql_graph.specs.declared.graph.Graph.{Graph}
use Rattle.gql_graph.proofs.TextSteps.{same_text}
use denote.Ref.{Bor}

-- what a graph holds tells where names lead
pub tells_held : (graph : Graph) (pairs : List (Text × List Text)) (next : Text → List Text) → Holds graph pairs → ((n : Text) → next_in pairs n ≡ next n) → Tells graph next
tells_held graph pairs next h e = λ n. ap (λ (o : Option (List Text)). unwrap_or o []) (h n) ∙ e n

-- the first that was put counts
abbrev pub put_over : Option (List Text) → (is_this : Bool) → List Text → Option (List Text)
put_over (Some old) is_this new = Some old
put_over None is_this new = cond is_this (Some new) None

pub first_next-push : (pairs : List (Text × List Text)) (name : Text) (to : List Text) (n : Text) → first_next (pairs ++ (name, to) ∷ []) n ≡ put_over (first_next pairs n) (bytes_eq name n) to
first_next-push [] name to n = refl
first_next-push (p ∷ ps) name to n = on (bytes_eq p.0 n) (first_next-push ps name to n) where
  on : (b : Bool) → first_next (ps ++ (name, to) ∷ []) n ≡ put_over (first_next ps n) (bytes_eq name n) to → cond b (Some p.1) (first_next (ps ++ (name, to) ∷ []) n) ≡ put_over (cond b (Some p.1) (first_next ps n)) (bytes_eq name n) to
  on true e = refl
  on false e = e

first_stays : (o : Option (List Text)) (b : Bool) (to : List Text) → (b ≡ true → is_some o ≡ true) → o ≡ put_over o b to
first_stays None true to h = absurd (true≢false (sym (h refl)))
first_stays None false to h = refl
first_stays (Some old) b to h = refl

new_counts : (o : Option (List Text)) (b : Bool) (to : List Text) → (b ≡ true → is_some o ≡ false) → cond b (Some to) o ≡ put_over o b to
new_counts None b to h = refl
new_counts (Some old) true to h = absurd (true≢false (h refl))
new_counts (Some old) false to h = refl

is_kept : (graph : Graph) (pairs : List (Text × List Text)) (name n : Text) → Holds graph pairs → bytes_eq name n ≡ true → is_some (first_next pairs n) ≡ is_some (links_of graph name)
is_kept graph pairs name n h e = ap is_some (sym (h n)) ∙ ap (λ (t : Text). is_some (links_of graph t)) (sym (same_text name n e))

-- a name that is there stays as it is
pub held_already : (graph : Graph) (pairs : List (Text × List Text)) (name : Text) (to : List Text) → Holds graph pairs → is_some (links_of graph name) ≡ true → Holds graph (pairs ++ (name, to) ∷ [])
held_already graph pairs name to h there = λ n. h n ∙ first_stays (first_next pairs n) (bytes_eq name n) to (λ e. is_kept graph pairs name n h e ∙ there) ∙ sym (first_next-push pairs name to n)

-- a new name is put
pub held_put : (old new : Graph) (pairs : List (Text × List Text)) (name : Text) (to : List Text) → Holds old pairs → is_some (links_of old name) ≡ false
    → ((n : Text) → links_of new n ≡ cond (bytes_eq name n) (Some to) (links_of old n)) → Holds new (pairs ++ (name, to) ∷ [])
held_put old new pairs name to h absent e = λ n.
    e n ∙ ap (λ (o : Option (List Text)). cond (bytes_eq name n) (Some to) o) (h n)
    ∙ new_counts (first_next pairs n) (bytes_eq name n) to (λ g. is_kept old pairs name n h g ∙ absent) ∙ sym (first_next-push pairs name to n)

pub is_some-map : {A B : Type 0} (f : A → B) (o : Option A) → is_some (option_map f o) ≡ is_some o
is_some-map f None = refl
is_some-map f (Some a) = refl

pub map_cond : {A B : Type 0} (f : A → B) (b : Bool) (a : A) (rest : Option A) → option_map f (cond b (Some a) rest) ≡ cond b (Some (f a)) (option_map f rest)
map_cond f true a rest = refl
map_cond f false a rest = refl

-- what is found, or none
pub found_or_none : (o : Option (Bor (List (Bor Text)))) (r : Bor (List (Bor Text))) → UnwrapsOrElse o (λ x. x.now ≡ []) r
    → map (λ (n : Bor Text). n.now) r.now ≡ unwrap_or (option_map (λ (ns : Bor (List (Bor Text))). map (λ (n : Bor Text). n.now) ns.now) o) []
found_or_none None r h = ap (map (λ (n : Bor Text). n.now)) h
found_or_none (Some x) r h = ap (λ (y : Bor (List (Bor Text))). map (λ (n : Bor Text). n.now) y.now) h

-- one more element of a list is put, which gives these names with those that they lead to
pub pairs_next : {X : Type 0} (of : X → List (Text × List Text)) (new : Graph) (pairs whole : List (Text × List Text)) (xs : List X) (i : ℕ) (x : X) → i < length xs → x ≡ get_or xs i x
    → Holds new (pairs ++ of x) → pairs ++ each of (drop i xs) ≡ whole
    → (then : List (Text × List Text)) × Holds new then × (then ++ each of (drop (i + 1) xs) ≡ whole)
pairs_next {X = X} of new pairs whole xs i x h is k w =
    let rest : List (Text × List Text) = each of (drop (i + 1) xs) in
    let same : drop i xs ≡ get_or xs i x ∷ drop (i + 1) xs = rw add-one (drop-cons xs i x h) in (
      pairs ++ of x,
      k,
      append_assoc pairs (of x) rest ∙ ap (λ (y : X). pairs ++ (of y ++ rest)) is ∙ sym (ap (λ (ys : List X). pairs ++ each of ys) same) ∙ w,
    )

-- all are put
pub pairs_end : {X : Type 0} (of : X → List (Text × List Text)) (graph : Graph) (pairs whole : List (Text × List Text)) (xs : List X) (i : ℕ) → length xs ≤ i
    → Holds graph pairs → pairs ++ each of (drop i xs) ≡ whole → Holds graph whole
pairs_end {X = X} of graph pairs whole xs i h k w =
    subst (λ (ps : List (Text × List Text)). Holds graph ps) (sym (append-nil pairs) ∙ sym (ap (λ (ys : List X). pairs ++ each of ys) (drop_all i xs h)) ∙ w) k
