-- Released operations, as the engine keeps them and as the machine has them, and the last of them.
use Rattle.std.proofs.Common.{◌≡◌, ℕ, zero, suc, ◌+◌, ◌-◌, ◌≤◌, List, [], ◌∷◌, ◌++◌, length, map, drop, Option, Some, None, option_map, refl, sym, ap, subst, ◌∙◌, arith, length-append, length-drop, drop-drop}
use Rattle.std.proofs.lemmas.List.{drop-append-le}
use Rattle.plan_project.specs.Lookups.{Agree}
use Rattle.line_engine.specs.Handles.{handle_kept, held_as, operation_kept}
use Rattle.line_engine.specs.Stands.{KeepsHandle, KeepsHandles, KeepsOperation, KeepsReleased}
use Rattle.relay_machine.specs.Machine.{Handle, Project, Retained, last_of, released_by, retained_by}
use Rattle.plan_ir.specs.schema_tables.Types.{Text}
use Rattle.store_retain.specs.Kept.{some_held}
use Rattle.store_retain.specs.declared.held.Held.{Held}

-- ---- the last so many

-- what comes later leaves the same ones, whether the earlier ones were left before or not
fewer : (m n b : ℕ) → (m - b) + ((m + n) - (m - b) - b) ≡ (m + n) - b
fewer m n b = omega arith

within : (m b : ℕ) → m - b ≤ m
within m b = omega arith

pub last_again : {X : Type 0} (b : ℕ) (xs ys : List X) → last_of b (last_of b xs ++ ys) ≡ last_of b (xs ++ ys)
last_again b xs ys =
    let d : ℕ = length xs - b in
    let joined : drop d (xs ++ ys) ≡ drop d xs ++ ys = drop-append-le d xs ys (within (length xs) b) in
    let long : length (drop d xs ++ ys) ≡ (length xs + length ys) - d = sym (ap length joined) ∙ length-drop d (xs ++ ys) ∙ ap (λ n. n - d) (length-append xs ys) in
    (λ i. drop (long i - b) (sym joined i)) ∙ drop-drop ((length xs + length ys) - d - b) d (xs ++ ys)
    ∙ ap (λ n. drop n (xs ++ ys)) (fewer (length xs) (length ys) b ∙ ap (λ n. n - b) (sym (length-append xs ys)))

-- ---- one for one

module _ (p : Project) where
  pub as_long : (xs : List Held) (rs : List Retained) → KeepsReleased p (map operation_kept xs) rs → length xs ≡ length rs
  as_long [] [] keeps = refl
  as_long [] (r ∷ rs) keeps = absurd keeps
  as_long (x ∷ xs) [] keeps = absurd keeps
  as_long (x ∷ xs) (r ∷ rs) keeps = ap (λ n. suc n) (as_long xs rs keeps.1)

  pub both : (xs ys : List Held) (rs qs : List Retained) → KeepsReleased p (map operation_kept xs) rs → KeepsReleased p (map operation_kept ys) qs
      → KeepsReleased p (map operation_kept (xs ++ ys)) (rs ++ qs)
  both [] ys [] qs keeps more = more
  both [] ys (r ∷ rs) qs keeps more = absurd keeps
  both (x ∷ xs) ys [] qs keeps more = absurd keeps
  both (x ∷ xs) ys (r ∷ rs) qs keeps more = (keeps.0, both xs ys rs qs keeps.1 more)

  pub without_first : (n : ℕ) (xs : List Held) (rs : List Retained) → KeepsReleased p (map operation_kept xs) rs → KeepsReleased p (map operation_kept (drop n xs)) (drop n rs)
  without_first zero xs rs keeps = keeps
  without_first (suc n) [] [] keeps = tt
  without_first (suc n) [] (r ∷ rs) keeps = absurd keeps
  without_first (suc n) (x ∷ xs) [] keeps = absurd keeps
  without_first (suc n) (x ∷ xs) (r ∷ rs) keeps = without_first n xs rs keeps.1

  -- the last of them, where more are released
  pub last_kept : (b : ℕ) (xs ys : List Held) (rs qs : List Retained) → KeepsReleased p (map operation_kept xs) (last_of b rs) → KeepsReleased p (map operation_kept ys) qs
      → KeepsReleased p (map operation_kept (last_of b (xs ++ ys))) (last_of b (rs ++ qs))
  last_kept b xs ys rs qs keeps more =
      let all : KeepsReleased p (map operation_kept (xs ++ ys)) (last_of b rs ++ qs) = both xs ys (last_of b rs) qs keeps more in
      let long : length (xs ++ ys) ≡ length (last_of b rs ++ qs) = as_long (xs ++ ys) (last_of b rs ++ qs) all in
      subst (KeepsReleased p (map operation_kept (last_of b (xs ++ ys)))) (last_again b rs qs)
      (subst (λ n. KeepsReleased p (map operation_kept (last_of b (xs ++ ys))) (drop (n - b) (last_of b rs ++ qs))) long
      (without_first (length (xs ++ ys) - b) (xs ++ ys) (last_of b rs ++ qs) all))

  -- ---- what handles hold

  retains : (x : Text × Held) (h : Handle) → KeepsHandle p (handle_kept x) h → KeepsOperation p (operation_kept x.1) (retained_by h)
  retains x h keeps = record { operation = keeps.operation; root = keeps.root; values = keeps.values }

  pub all_live : (xs : List (Text × Held)) (hs : List Handle) → KeepsHandles p (map handle_kept xs) hs
      → KeepsReleased p (map operation_kept (map (λ (h : Text × Held). h.1) xs)) (map retained_by hs)
  all_live [] [] keeps = tt
  all_live [] (h ∷ hs) keeps = absurd keeps
  all_live (x ∷ xs) [] keeps = absurd keeps
  all_live (x ∷ xs) (h ∷ hs) keeps = (retains x h keeps.0, all_live xs hs keeps.1)

  -- the handle that leaves, where there is one
  pub leaves : (name : Text) (o : Option Held) (g : Option Handle) → Agree (KeepsHandle p) (option_map (held_as name) o) g
      → KeepsReleased p (map operation_kept (some_held o)) (released_by g)
  leaves name None None keeps = tt
  leaves name None (Some h) keeps = absurd keeps
  leaves name (Some x) None keeps = absurd keeps
  leaves name (Some x) (Some h) keeps = (retains (name, x) h keeps, tt)
