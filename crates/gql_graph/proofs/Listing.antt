-- A search that lists what it finds.
use Rattle.std.proofs.Common.{◌≡◌, ℕ, Bool, true, false, true≢false, cond, ◌||◌, List, [], ◌∷◌, ◌++◌, bytes_eq, refl, ap, sym, subst, ◌∙◌}
use Rattle.std.specs.BTreeSet.{BTreeSet}
use Rattle.gql_plain.specs.Order.{has_text}
use Rattle.gql_plain.proofs.Booleans.{or_false, or_true}
use Rattle.gql_graph.specs.Graphs.{unseen_names, Once}
use Rattle.gql_graph.specs.Reached.{any_leads}
use Rattle.gql_graph.specs.Seen.{Knows}
use Rattle.gql_graph.specs.Texts.{Text}
use Rattle.gql_graph.proofs.Searching.{Finds}
use Rattle.gql_graph.proofs.TextSteps.{same_text, same_self}
use denote.Ref.{Bor}

-- whether a name is in the first or the second list
pub has_either : (ns ms : List Text) (m : Text) → has_text (ns ++ ms) m ≡ (has_text ns m || has_text ms m)
has_either [] ms m = refl
has_either (n ∷ ns) ms m = ap (λ (b : Bool). bytes_eq n m || b) (has_either ns ms m) ∙ grouped (bytes_eq n m) (has_text ns m) (has_text ms m) where
  grouped : (a b c : Bool) → (a || (b || c)) ≡ ((a || b) || c)
  grouped true b c = refl
  grouped false b c = refl

seen_already : (e m s u : Bool) → (e ≡ true → s ≡ true) → (m || s) ≡ (s || u) → ((e || m) || s) ≡ (s || u)
seen_already true m true u h i = refl
seen_already true m false u h i = absurd (true≢false (sym (h refl)))
seen_already false m s u h i = i

seen_now : (e m s u : Bool) → (m || (e || s)) ≡ ((e || s) || u) → ((e || m) || s) ≡ (s || (e || u))
seen_now true m true u i = refl
seen_now true m false u i = refl
seen_now false m s u i = i

-- a name is new or was seen
has_unseen : (seen ns : List Text) (n : Text) → (has_text ns n || has_text seen n) ≡ (has_text seen n || has_text (unseen_names seen ns) n)
has_unseen seen [] n = sym (or_false (has_text seen n))
has_unseen seen (m ∷ ms) n = on (has_unseen seen ms n) (has_unseen (m ∷ seen) ms n) (has_text seen m) refl
  where
    on : (has_text ms n || has_text seen n) ≡ (has_text seen n || has_text (unseen_names seen ms) n) → (has_text ms n || has_text (m ∷ seen) n) ≡ (has_text (m ∷ seen) n || has_text (unseen_names (m ∷ seen) ms) n)
        → (b : Bool) → has_text seen m ≡ b → ((bytes_eq m n || has_text ms n) || has_text seen n) ≡ (has_text seen n || has_text (cond b (unseen_names seen ms) (m ∷ unseen_names (m ∷ seen) ms)) n)
    on old new true h =
        seen_already (bytes_eq m n) (has_text ms n) (has_text seen n) (has_text (unseen_names seen ms) n)
        (λ e. sym (ap (has_text seen) (same_text m n e)) ∙ h) old
    on old new false h = seen_now (bytes_eq m n) (has_text ms n) (has_text seen n) (has_text (unseen_names (m ∷ seen) ms) n) new

-- the set has the names so far and the new ones
pub knows_all : (set : BTreeSet (Bor (List ℕ))) (all names rest : List Text) → Knows set (names ++ all) → rest ≡ unseen_names all names → Knows set (all ++ rest)
knows_all set all names rest k e = λ n.
    k n ∙ has_either names all n ∙ has_unseen all names n ∙ sym (has_either all (unseen_names all names) n) ∙ sym (ap (λ (ms : List Text). has_text (all ++ ms) n) e)

-- the list has what the search has found
pub found_all : (next : Text → List Text) (steps : ℕ) (starts : List Text) (set : BTreeSet (Bor (List ℕ))) (all : List Text) → Knows set all → Finds next steps starts set
    → (to : Text) → has_text all to ≡ any_leads next steps starts to
found_all next steps starts set all k f to = sym (k to) ∙ f.1 to ∙ f.2 to

-- ---- each name stands once

-- what was seen is not unseen
unseen_new : (seen ns : List Text) (m : Text) → has_text seen m ≡ true → has_text (unseen_names seen ns) m ≡ false
unseen_new seen [] m h = refl
unseen_new seen (n ∷ ns) m h = on (unseen_new seen ns m h) (unseen_new (n ∷ seen) ns m (ap (λ (b : Bool). bytes_eq n m || b) h ∙ or_true (bytes_eq n m))) (has_text seen n) refl
  where
    new_one : has_text seen n ≡ false → (b : Bool) → bytes_eq n m ≡ b → has_text (unseen_names (n ∷ seen) ns) m ≡ false → (b || has_text (unseen_names (n ∷ seen) ns) m) ≡ false
    new_one e true g k = absurd (true≢false (sym h ∙ ap (has_text seen) (sym (same_text n m g)) ∙ e))
    new_one e false g k = k

    on : has_text (unseen_names seen ns) m ≡ false → has_text (unseen_names (n ∷ seen) ns) m ≡ false → (b : Bool) → has_text seen n ≡ b → has_text (cond b (unseen_names seen ns) (n ∷ unseen_names (n ∷ seen) ns)) m ≡ false
    on old new true e = old
    on old new false e = new_one e (bytes_eq n m) refl new

once_unseen : (seen ns : List Text) → Once (unseen_names seen ns)
once_unseen seen [] = tt
once_unseen seen (n ∷ ns) = on (once_unseen seen ns) (once_unseen (n ∷ seen) ns) (has_text seen n) where
  on : Once (unseen_names seen ns) → Once (unseen_names (n ∷ seen) ns) → (b : Bool) → Once (cond b (unseen_names seen ns) (n ∷ unseen_names (n ∷ seen) ns))
  on old new true = old
  on old new false = (unseen_new (n ∷ seen) ns n (ap (λ (b : Bool). b || has_text seen n) (same_self n)), new)

once_append : (a b : List Text) → Once a → Once b → ((m : Text) → has_text a m ≡ true → has_text b m ≡ false) → Once (a ++ b)
once_append [] b s t f = t
once_append (n ∷ a) b s t f = (
  has_either a b n ∙ ap (λ (x : Bool). x || has_text b n) s.0 ∙ f n (ap (λ (x : Bool). x || has_text a n) (same_self n)),
  once_append a b s.1 t (λ m h. f m (ap (λ (x : Bool). bytes_eq n m || x) h ∙ or_true (bytes_eq n m))),
)

-- one round more
pub once_more : (all names rest : List Text) → Once all → rest ≡ unseen_names all names → Once (all ++ rest)
once_more all names rest s e = subst (λ (ms : List Text). Once (all ++ ms)) (sym e) (once_append all (unseen_names all names) s (once_unseen all names) (λ m h. unseen_new all names m h))
