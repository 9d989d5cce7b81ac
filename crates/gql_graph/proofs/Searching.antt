-- A search through the names that names lead to, round by round.
use Rattle.std.proofs.Common.{◌+◌, ◌-◌, ◌<◌, ◌≤◌, length, map, drop, get_or, add-one, cond, ◌≡◌, ℕ, zero, suc, Bool, true, false, true≢false, not, ◌||◌, List, [], ◌∷◌, ◌++◌, append_assoc, subst, bytes_eq, refl, ap, sym, ◌∙◌, arith}
use Rattle.std.proofs.Math.Seq.{drop-cons}
use Rattle.std.proofs.lemmas.List.{append-nil, drop_all, map-append}
use Rattle.std.proofs.lemmas.List.Folds.{list_any-append}
use Rattle.std.specs.BTreeSet.{BTreeSet}
use Rattle.std.specs.List.{list_any}
use Rattle.gql_plain.specs.Order.{has_text}
use Rattle.gql_plain.proofs.Booleans.{or_false, or_swap, or_rotate, both_ways, or_true}
use Rattle.gql_graph.specs.Graphs.{unseen_names}
use Rattle.gql_graph.specs.Reached.{leads, any_leads}
use Rattle.gql_graph.specs.Rules.{each}
use Rattle.gql_graph.specs.Seen.{Knows}
use Rattle.gql_graph.specs.Texts.{Text}
use Rattle.gql_graph.proofs.TextSteps.{same_text, same_self, either_of, some_of}
use denote.Ref.{Bor}

-- what a name leads to is seen
abbrev pub IsDone : (Text → List Text) → List Text → Text → Type 0
IsDone next seen n = (m : Text) → has_text (next n) m ≡ true → has_text seen m ≡ true

-- all that are seen are done, but those that wait
abbrev pub AreDone : (Text → List Text) → List Text → List Text → Type 0
AreDone next seen frontier = (n : Text) → has_text seen n ≡ true → has_text frontier n ≡ false → IsDone next seen n

-- ---- truth values

by_cases : {P : Type 0} (b : Bool) → (b ≡ true → P) → (b ≡ false → P) → P
by_cases true f g = f refl
by_cases false f g = g refl

already : (a b : Bool) → (b ≡ true → a ≡ true) → (a || b) ≡ a
already true b f = refl
already false true f = sym (f refl)
already false false f = refl

-- ---- texts of lists

has_some : (p : Text → Bool) (ns : List Text) (m : Text) → has_text ns m ≡ true → p m ≡ true → list_any p ns ≡ true
has_some p [] m h e = absurd (true≢false (sym h))
has_some p (n ∷ ns) m h e = either_of (bytes_eq n m) (has_text ns m) h
    (λ g. ap (λ b. b || list_any p ns) (ap p (same_text n m g) ∙ e))
    (λ g. ap (λ b. p n || b) (has_some p ns m g e) ∙ or_true (p n))

has_append : (ns ms : List Text) (m : Text) → has_text (ns ++ ms) m ≡ (has_text ns m || has_text ms m)
has_append ns ms m = list_any-append (λ n. bytes_eq n m) ns ms

in_first : (ns ms : List Text) (m : Text) → has_text ns m ≡ true → has_text (ns ++ ms) m ≡ true
in_first ns ms m h = has_append ns ms m ∙ ap (λ b. b || has_text ms m) h

in_second : (ns ms : List Text) (m : Text) → has_text ms m ≡ true → has_text (ns ++ ms) m ≡ true
in_second ns ms m h = has_append ns ms m ∙ ap (λ b. has_text ns m || b) h ∙ or_true (has_text ns m)

each_has : (f : Text → List Text) (ns : List Text) (n m : Text) → has_text ns n ≡ true → has_text (f n) m ≡ true → has_text (each f ns) m ≡ true
each_has f [] n m h k = absurd (true≢false (sym h))
each_has f (x ∷ xs) n m h k = either_of (bytes_eq x n) (has_text xs n) h
    (λ e. in_first (f x) (each f xs) m (ap (λ (t : Text). has_text (f t) m) (same_text x n e) ∙ k))
    (λ e. in_second (f x) (each f xs) m (each_has f xs n m e k))

each_from : {P : Type 0} (f : Text → List Text) (ns : List Text) (m : Text) → has_text (each f ns) m ≡ true → ((n : Text) → has_text ns n ≡ true → has_text (f n) m ≡ true → P) → P
each_from f [] m h use_it = absurd (true≢false (sym h))
each_from {P = P} f (x ∷ xs) m h use_it = either_of (has_text (f x) m) (has_text (each f xs) m) (sym (has_append (f x) (each f xs) m) ∙ h)
    (λ e. use_it x (ap (λ b. b || has_text xs x) (same_self x)) e)
    (λ e. each_from {P = P} f xs m e (λ n i j. use_it n (ap (λ b. bytes_eq x n || b) i ∙ or_true (bytes_eq x n)) j))

-- ---- those that are not seen yet

-- what is seen already
known_already : (now : List Text) (k n : Text) → has_text now k ≡ true → (bytes_eq k n || has_text now n) ≡ has_text now n
known_already now k n h = by_cases (bytes_eq k n)
    (λ e. ap (λ b. b || has_text now n) e ∙ sym (sym (ap (λ (t : Text). has_text now t) (same_text k n e)) ∙ h))
    (λ e. ap (λ b. b || has_text now n) e)

-- lists with the same texts leave the same unseen
unseen_alike : (a b ns : List Text) → ((m : Text) → has_text a m ≡ has_text b m) → unseen_names a ns ≡ unseen_names b ns
unseen_alike a b [] e = refl
unseen_alike a b (n ∷ ns) e =
    ap (λ t. cond t (unseen_names a ns) (n ∷ unseen_names (n ∷ a) ns)) (e n)
    ∙ ap (λ (l : List Text). cond (has_text b n) l (n ∷ unseen_names (n ∷ a) ns)) (unseen_alike a b ns e)
    ∙ ap (λ (l : List Text). cond (has_text b n) (unseen_names b ns) (n ∷ l)) (unseen_alike (n ∷ a) (n ∷ b) ns (λ m. ap (λ t. bytes_eq n m || t) (e m)))

unseen_cons : (now : List Text) (n : Text) (ns : List Text) → unseen_names now (n ∷ []) ++ unseen_names (n ∷ now) ns ≡ unseen_names now (n ∷ ns)
unseen_cons now n ns = by_cases (has_text now n)
    (λ e. ap (λ t. cond t [] (n ∷ []) ++ unseen_names (n ∷ now) ns) e ∙ unseen_alike (n ∷ now) now ns (λ m. known_already now n m e) ∙ sym (ap (λ t. cond t (unseen_names now ns) (n ∷ unseen_names (n ∷ now) ns)) e))
    (λ e. ap (λ t. cond t [] (n ∷ []) ++ unseen_names (n ∷ now) ns) e ∙ sym (ap (λ t. cond t (unseen_names now ns) (n ∷ unseen_names (n ∷ now) ns)) e))

-- what the loop over names keeps: what is put and what is left are the whole
abbrev pub Puts : BTreeSet (Bor (List ℕ)) → List Text → List Text → List Text → (Text → Bool) → Type 0
Puts set put left whole known =
    (now : List Text) × Knows set now × (put ++ unseen_names now left ≡ whole) × ((m : Text) → (has_text now m || has_text left m) ≡ known m)

-- one more name of a list is put
pub puts_next : (new : BTreeSet (Bor (List ℕ))) (now put then whole : List Text) (known : Text → Bool) (xs : List (Bor (List ℕ))) (i : ℕ) (d : Bor (List ℕ)) → i < length xs
    → Knows new ((get_or xs i d).now ∷ now) → then ≡ put ++ unseen_names now ((get_or xs i d).now ∷ []) → put ++ unseen_names now (map (λ (n : Bor (List ℕ)). n.now) (drop i xs)) ≡ whole
    → ((m : Text) → (has_text now m || has_text (map (λ (n : Bor (List ℕ)). n.now) (drop i xs)) m) ≡ known m)
    → Puts new then (map (λ (n : Bor (List ℕ)). n.now) (drop (i + 1) xs)) whole known
puts_next new now put then whole known xs i d h k e w s =
    let n : Text = (get_or xs i d).now in
    let rest : List Text = map (λ (n : Bor (List ℕ)). n.now) (drop (i + 1) xs) in
    let same : drop i xs ≡ get_or xs i d ∷ drop (i + 1) xs = rw add-one (drop-cons xs i d h) in (
      n ∷ now,
      k,
      ap (λ (l : List Text). l ++ unseen_names (n ∷ now) rest) e ∙ append_assoc put (unseen_names now (n ∷ [])) (unseen_names (n ∷ now) rest)
          ∙ ap (λ (l : List Text). put ++ l) (unseen_cons now n rest) ∙ sym (ap (λ (ys : List (Bor (List ℕ))). put ++ unseen_names now (map (λ (n : Bor (List ℕ)). n.now) ys)) same) ∙ w,
      λ m. or_rotate (has_text now m) (bytes_eq n m) (has_text rest m) ∙ sym (ap (λ (ys : List (Bor (List ℕ))). has_text now m || has_text (map (λ (n : Bor (List ℕ)). n.now) ys) m) same) ∙ s m,
    )

none_left : (xs : List (Bor (List ℕ))) (i : ℕ) → length xs ≤ i → map (λ (n : Bor (List ℕ)). n.now) (drop i xs) ≡ []
none_left xs i h = ap (λ (ys : List (Bor (List ℕ))). map (λ (n : Bor (List ℕ)). n.now) ys) (drop_all i xs h)

-- all names are put
pub puts_end : (set : BTreeSet (Bor (List ℕ))) (put : List Text) (xs : List (Bor (List ℕ))) (i : ℕ) (whole : List Text) (known : Text → Bool) → length xs ≤ i
    → Puts set put (map (λ (n : Bor (List ℕ)). n.now) (drop i xs)) whole known → put ≡ whole
puts_end set put xs i whole known h p = sym (append-nil put) ∙ sym (ap (λ (l : List Text). put ++ unseen_names p.0 l) (none_left xs i h)) ∙ p.2

-- all names are known
pub all_known : (set : BTreeSet (Bor (List ℕ))) (put before : List Text) (xs : List (Bor (List ℕ))) (i : ℕ) (whole : List Text) → length xs ≤ i
    → Puts set put (map (λ (n : Bor (List ℕ)). n.now) (drop i xs)) whole (λ m. has_text before m || has_text (map (λ (n : Bor (List ℕ)). n.now) xs) m) → Knows set (map (λ (n : Bor (List ℕ)). n.now) xs ++ before)
all_known set put before xs i whole h p =
    let ns : List Text = map (λ (n : Bor (List ℕ)). n.now) xs in
    λ m.
    p.1 m ∙ sym (or_false (has_text p.0 m)) ∙ sym (ap (λ (l : List Text). has_text p.0 m || has_text l m) (none_left xs i h)) ∙ p.3 m ∙ or_swap (has_text before m) (has_text ns m) ∙ sym (has_append ns before m)

-- a name that is seen already is not put
pub none_put : (ns : List Text) (n : Text) (is_new : Bool) (put : List Text) → is_new ≡ not (has_text ns n) → is_new ≡ false → put ≡ put ++ unseen_names ns (n ∷ [])
none_put ns n is_new put e f = by_cases (has_text ns n)
    (λ g. sym (append-nil put) ∙ sym (ap (λ t. put ++ cond t [] (n ∷ [])) g))
    (λ g. absurd (true≢false (sym (ap not g) ∙ sym e ∙ f)))

-- a new one is put
pub one_put : (ns : List Text) (n : Bor (List ℕ)) (is_new : Bool) (old new : List (Bor (List ℕ))) → is_new ≡ not (has_text ns n.now) → is_new ≡ true → new ≡ old ++ n ∷ []
    → map (λ (n : Bor (List ℕ)). n.now) new ≡ map (λ (n : Bor (List ℕ)). n.now) old ++ unseen_names ns (n.now ∷ [])
one_put ns n is_new old new e f g = by_cases (has_text ns n.now)
    (λ h. absurd (true≢false (sym f ∙ e ∙ ap not h)))
    (λ h. ap (λ (l : List (Bor (List ℕ))). map (λ (n : Bor (List ℕ)). n.now) l) g ∙ map-append (λ (n : Bor (List ℕ)). n.now) old (n ∷ []) ∙ sym (ap (λ t. map (λ (n : Bor (List ℕ)). n.now) old ++ cond t [] (n.now ∷ [])) h))

-- one more type whose needs are collected
pub each_more : (f : Text → List Text) (xs : List (Bor (List ℕ))) (i : ℕ) (d : Bor (List ℕ)) (old more new : List (Bor (List ℕ))) (whole : List Text) → i < length xs
    → new ≡ old ++ more → map (λ (n : Bor (List ℕ)). n.now) more ≡ f (get_or xs i d).now
    → map (λ (n : Bor (List ℕ)). n.now) old ++ each f (map (λ (n : Bor (List ℕ)). n.now) (drop i xs)) ≡ whole
    → map (λ (n : Bor (List ℕ)). n.now) new ++ each f (map (λ (n : Bor (List ℕ)). n.now) (drop (i + 1) xs)) ≡ whole
each_more f xs i d old more new whole h e g w =
    let rest : List Text = each f (map (λ (n : Bor (List ℕ)). n.now) (drop (i + 1) xs)) in
    let before : List Text = map (λ (n : Bor (List ℕ)). n.now) old in
    let same : drop i xs ≡ get_or xs i d ∷ drop (i + 1) xs = rw add-one (drop-cons xs i d h) in
    ap (λ (l : List (Bor (List ℕ))). map (λ (n : Bor (List ℕ)). n.now) l ++ rest) e ∙ ap (λ (l : List Text). l ++ rest) (map-append (λ (n : Bor (List ℕ)). n.now) old more)
    ∙ append_assoc before (map (λ (n : Bor (List ℕ)). n.now) more) rest ∙ ap (λ (l : List Text). before ++ (l ++ rest)) g
    ∙ sym (ap (λ (ys : List (Bor (List ℕ))). before ++ each f (map (λ (n : Bor (List ℕ)). n.now) ys)) same) ∙ w

-- what is unseen is one of them
unseen_in : (seen ns : List Text) (m : Text) → has_text (unseen_names seen ns) m ≡ true → has_text ns m ≡ true
unseen_in seen [] m h = h
unseen_in seen (n ∷ ns) m h = by_cases (has_text seen n)
    (λ e. later (unseen_in seen ns m (sym (ap (λ t. has_text (cond t (unseen_names seen ns) (n ∷ unseen_names (n ∷ seen) ns)) m) e) ∙ h)))
    (λ e. either_of (bytes_eq n m) (has_text (unseen_names (n ∷ seen) ns) m) (sym (ap (λ t. has_text (cond t (unseen_names seen ns) (n ∷ unseen_names (n ∷ seen) ns)) m) e) ∙ h)
    (λ g. ap (λ b. b || has_text ns m) g)
    (λ g. later (unseen_in (n ∷ seen) ns m g)))
  where
    later : has_text ns m ≡ true → (bytes_eq n m || has_text ns m) ≡ true
    later g = ap (λ b. bytes_eq n m || b) g ∙ or_true (bytes_eq n m)

-- each of them is unseen or was seen
unseen_all : (seen ns : List Text) (m : Text) → has_text ns m ≡ true → has_text (unseen_names seen ns) m ≡ false → has_text seen m ≡ true
unseen_all seen [] m h k = absurd (true≢false (sym h))
unseen_all seen (n ∷ ns) m h k = by_cases (has_text seen n)
    (λ e. either_of (bytes_eq n m) (has_text ns m) h
    (λ g. sym (ap (λ (t : Text). has_text seen t) (same_text n m g)) ∙ e)
    (λ g. unseen_all seen ns m g (sym (ap (λ t. has_text (cond t (unseen_names seen ns) (n ∷ unseen_names (n ∷ seen) ns)) m) e) ∙ k)))
    (λ e. unseen_put (sym (ap (λ t. has_text (cond t (unseen_names seen ns) (n ∷ unseen_names (n ∷ seen) ns)) m) e) ∙ k) (λ g i. unseen_all (n ∷ seen) ns m g i))
  where
    unseen_put : (bytes_eq n m || has_text (unseen_names (n ∷ seen) ns) m) ≡ false → (has_text ns m ≡ true → has_text (unseen_names (n ∷ seen) ns) m ≡ false → (bytes_eq n m || has_text seen m) ≡ true) → has_text seen m ≡ true
    unseen_put q f = by_cases (bytes_eq n m)
        (λ g. absurd (true≢false (sym (ap (λ b. b || has_text (unseen_names (n ∷ seen) ns) m) g) ∙ q)))
        (λ g. either_of (bytes_eq n m) (has_text ns m) h (λ i. absurd (true≢false (sym i ∙ g)))
        (λ i. sym (ap (λ b. b || has_text seen m) g) ∙ f i (sym (ap (λ b. b || has_text (unseen_names (n ∷ seen) ns) m) g) ∙ q)))

-- ---- where names lead

-- a name that leads on leads there in one step more
next_step : (next : Text → List Text) (k : ℕ) (n m to : Text) → has_text (next n) m ≡ true → leads next k m to ≡ true → leads next (suc k) n to ≡ true
next_step next k n m to h e = ap (λ b. bytes_eq n to || b) (has_some (λ x. leads next k x to) (next n) m h e) ∙ or_true (bytes_eq n to)

leads_itself : (next : Text → List Text) (k : ℕ) (n : Text) → leads next k n n ≡ true
leads_itself next zero n = same_self n
leads_itself next (suc k) n = ap (λ b. b || list_any (λ x. leads next k x n) (next n)) (same_self n)

leads_same : (next : Text → List Text) (k : ℕ) (n to : Text) → bytes_eq n to ≡ true → leads next k n to ≡ true
leads_same next k n to e = ap (λ (t : Text). leads next k n t) (sym (same_text n to e)) ∙ leads_itself next k n

-- one step more
more_steps : (next : Text → List Text) (k : ℕ) (n to : Text) → leads next k n to ≡ true → leads next (suc k) n to ≡ true
more_steps next zero n to e = leads_same next 1 n to e
more_steps next (suc k) n to e = either_of (bytes_eq n to) (list_any (λ x. leads next k x to) (next n)) e
    (λ g. leads_same next (suc (suc k)) n to g)
    (λ g. some_of (λ x. leads next k x to) (next n) g (λ x i j. next_step next (suc k) n x to i (more_steps next k x to j)))

more_reached : (next : Text → List Text) (k : ℕ) (ns : List Text) (to : Text) → any_leads next k ns to ≡ true → any_leads next (suc k) ns to ≡ true
more_reached next k ns to e = some_of (λ n. leads next k n to) ns e (λ n i j. has_some (λ n. leads next (suc k) n to) ns n i (more_steps next k n to j))

-- where a name that is seen leads is seen, or a name that waits leads there
from_seen : (next : Text → List Text) (seen frontier : List Text) → AreDone next seen frontier → (k : ℕ) (n to : Text) → has_text seen n ≡ true → leads next k n to ≡ true
    → (has_text seen to || any_leads next k frontier to) ≡ true
from_seen next seen frontier done zero n to h e = ap (λ b. b || any_leads next zero frontier to) (ap (λ (t : Text). has_text seen t) (sym (same_text n to e)) ∙ h)
from_seen next seen frontier done (suc k) n to h e = by_cases (has_text frontier n)
    (λ g. ap (λ b. has_text seen to || b) (has_some (λ x. leads next (suc k) x to) frontier n g e) ∙ or_true (has_text seen to))
    (λ g. either_of (bytes_eq n to) (list_any (λ x. leads next k x to) (next n)) e
    (λ q. ap (λ b. b || any_leads next (suc k) frontier to) (ap (λ (t : Text). has_text seen t) (sym (same_text n to q)) ∙ h))
    (λ q. some_of (λ x. leads next k x to) (next n) q
    (λ x i j. either_of (has_text seen to) (any_leads next k frontier to) (from_seen next seen frontier done k x to (done n h g x i) j)
    (λ r. ap (λ b. b || any_leads next (suc k) frontier to) r)
    (λ r. ap (λ b. has_text seen to || b) (more_reached next k frontier to r) ∙ or_true (has_text seen to)))))

-- all that a round finds is seen, and waits where it was not seen before
done_next : (next : Text → List Text) (seen frontier all : List Text) → all ≡ each next frontier → AreDone next seen frontier → AreDone next (all ++ seen) (unseen_names seen all)
done_next next seen frontier all e done = λ n h g m k.
    let was_seen : has_text seen n ≡ true = either_of (has_text all n) (has_text seen n) (sym (has_append all seen n) ∙ h) (λ i. unseen_all seen all n i g) (λ i. i) in
    by_cases (has_text frontier n)
    (λ i. in_first all seen m (ap (λ (l : List Text). has_text l m) e ∙ each_has next frontier n m i k))
    (λ i. in_second all seen m (done n was_seen i m k))

waits_next : (seen all : List Text) (n : Text) → has_text (unseen_names seen all) n ≡ true → has_text (all ++ seen) n ≡ true
waits_next seen all n h = in_first all seen n (unseen_in seen all n h)

same_next : (next : Text → List Text) (seen frontier all : List Text) (k : ℕ) → all ≡ each next frontier → AreDone next seen frontier
    → ((n : Text) → has_text frontier n ≡ true → has_text seen n ≡ true)
    → (to : Text) → (has_text seen to || any_leads next (suc k) frontier to) ≡ (has_text (all ++ seen) to || any_leads next k (unseen_names seen all) to)
same_next next seen frontier all k e done waits to = both_ways (has_text seen to || any_leads next (suc k) frontier to) (has_text (all ++ seen) to || any_leads next k (unseen_names seen all) to)
    (λ h. either_of (has_text seen to) (any_leads next (suc k) frontier to) h was_seen
    (λ g. some_of (λ n. leads next (suc k) n to) frontier g
    (λ n i j. either_of (bytes_eq n to) (list_any (λ x. leads next k x to) (next n)) j
    (λ q. was_seen (ap (λ (t : Text). has_text seen t) (sym (same_text n to q)) ∙ waits n i))
    (λ q. some_of (λ x. leads next k x to) (next n) q
    (λ x r s. from_seen next (all ++ seen) (unseen_names seen all) (done_next next seen frontier all e done) k x to (in_first all seen x (found n x i r)) s)))))
    (λ h. either_of (has_text (all ++ seen) to) (any_leads next k (unseen_names seen all) to) h
    (λ g. either_of (has_text all to) (has_text seen to) (sym (has_append all seen to) ∙ g)
    (λ i. led to i (leads_itself next k to))
    (λ i. ap (λ b. b || any_leads next (suc k) frontier to) i))
    (λ g. some_of (λ n. leads next k n to) (unseen_names seen all) g (λ m i j. led m (unseen_in seen all m i) j)))
  where
    found : (n m : Text) → has_text frontier n ≡ true → has_text (next n) m ≡ true → has_text all m ≡ true
    found n m i r = ap (λ (l : List Text). has_text l m) e ∙ each_has next frontier n m i r

    was_seen : has_text seen to ≡ true → (has_text (all ++ seen) to || any_leads next k (unseen_names seen all) to) ≡ true
    was_seen h = ap (λ b. b || any_leads next k (unseen_names seen all) to) (in_second all seen to h)

    led : (m : Text) → has_text all m ≡ true → leads next k m to ≡ true → (has_text seen to || any_leads next (suc k) frontier to) ≡ true
    led m i j = each_from next frontier m (sym (ap (λ (l : List Text). has_text l m) e) ∙ i)
        (λ n r s. ap (λ b. has_text seen to || b) (has_some (λ x. leads next (suc k) x to) frontier n r (next_step next k n m to s j)) ∙ or_true (has_text seen to))

-- what a search has found, with so many steps left
pub record Sought (next : Text → List Text) (steps : ℕ) (starts : List Text) (set : BTreeSet (Bor (List ℕ))) (frontier : List Text) (at : ℕ) : Type 0 where
  pub seen : List Text
  pub left : ℕ
  pub known : Knows set seen
  pub steps_left : at + left ≡ steps
  pub done : AreDone next seen frontier
  pub waits : (n : Text) → has_text frontier n ≡ true → has_text seen n ≡ true
  pub same : (to : Text) → (has_text seen to || any_leads next left frontier to) ≡ any_leads next steps starts to

-- the set has the names that are reached
abbrev pub Finds : (Text → List Text) → ℕ → List Text → BTreeSet (Bor (List ℕ)) → Type 0
Finds next steps starts set = (ns : List Text) × Knows set ns × ((to : Text) → has_text ns to ≡ any_leads next steps starts to)

-- at the start the names themselves wait
pub sought_first : (next : Text → List Text) (steps : ℕ) (starts : List Text) (set : BTreeSet (Bor (List ℕ))) (frontier : List Text) → Knows set (starts ++ []) → frontier ≡ unseen_names [] starts → Sought next steps starts set frontier 0
sought_first next steps starts set frontier k e = record {
  seen = starts ++ [];
  left = steps;
  known = k;
  steps_left = omega arith;
  done = subst (λ (l : List Text). AreDone next (starts ++ []) l) (sym e) none_done;
  waits = λ n h. waits_next [] starts n (sym (ap (λ (l : List Text). has_text l n) e) ∙ h);
  same = λ to. ap (λ (l : List Text). has_text (starts ++ []) to || any_leads next steps l to) e ∙ both_ways (has_text (starts ++ []) to || any_leads next steps (unseen_names [] starts) to) (any_leads next steps starts to)
      (λ h. either_of (has_text (starts ++ []) to) (any_leads next steps (unseen_names [] starts) to) h
      (λ g. has_some (λ n. leads next steps n to) starts to (started to g) (leads_itself next steps to))
      (λ g. some_of (λ n. leads next steps n to) (unseen_names [] starts) g (λ n i j. has_some (λ n. leads next steps n to) starts n (unseen_in [] starts n i) j)))
      (λ h. some_of (λ n. leads next steps n to) starts h (λ n i j. from_seen next (starts ++ []) (unseen_names [] starts) none_done steps n to (in_first starts [] n i) j));
}
  where
    started : (n : Text) → has_text (starts ++ []) n ≡ true → has_text starts n ≡ true
    started n h = ap (λ (l : List Text). has_text l n) (sym (append-nil starts)) ∙ h

    none_done : AreDone next (starts ++ []) (unseen_names [] starts)
    none_done = λ n h g. absurd (true≢false (sym (unseen_all [] starts n (started n h) g)))

-- one round more
pub sought_next : (next : Text → List Text) (steps : ℕ) (starts : List Text) (old new : BTreeSet (Bor (List ℕ))) (frontier all then : List Text) (at : ℕ) → at < steps
    → (s : Sought next steps starts old frontier at) → all ≡ each next frontier → then ≡ unseen_names s.seen all → Knows new (all ++ s.seen) → Sought next steps starts new then (at + 1)
sought_next next steps starts old new frontier all then at h s e n k =
    let less : ℕ = steps - (at + 1) in
    let one : s.left ≡ suc less = omega (arith, s.steps_left) in
    record {
      seen = all ++ s.seen;
      left = less;
      known = k;
      steps_left = omega arith;
      done = subst (λ (l : List Text). AreDone next (all ++ s.seen) l) (sym n) (done_next next s.seen frontier all e s.done);
      waits = λ m i. waits_next s.seen all m (sym (ap (λ (l : List Text). has_text l m) n) ∙ i);
      same = λ to. ap (λ (l : List Text). has_text (all ++ s.seen) to || any_leads next less l to) n ∙ sym (same_next next s.seen frontier all less e s.done s.waits to)
          ∙ sym (ap (λ (left : ℕ). has_text s.seen to || any_leads next left frontier to) one) ∙ s.same to;
    }

-- none is left to be looked at
pub sought_none : (next : Text → List Text) (steps : ℕ) (starts : List Text) (set : BTreeSet (Bor (List ℕ))) (frontier : List Text) (at : ℕ) → Sought next steps starts set frontier at → frontier ≡ [] → Finds next steps starts set
sought_none next steps starts set frontier at s e = (
  s.seen,
  s.known,
  λ to. sym (or_false (has_text s.seen to)) ∙ sym (ap (λ (l : List Text). has_text s.seen to || any_leads next s.left l to) e) ∙ s.same to,
)

-- no step is left
pub sought_end : (next : Text → List Text) (steps : ℕ) (starts : List Text) (set : BTreeSet (Bor (List ℕ))) (frontier : List Text) (at : ℕ) → steps ≤ at → Sought next steps starts set frontier at → Finds next steps starts set
sought_end next steps starts set frontier at h s =
    let none : s.left ≡ 0 = omega (arith, s.steps_left) in (
      s.seen,
      s.known,
      λ to.
          sym (already (has_text s.seen to) (has_text frontier to) (s.waits to)) ∙ sym (ap (λ (left : ℕ). has_text s.seen to || any_leads next left frontier to) none) ∙ s.same to,
    )
