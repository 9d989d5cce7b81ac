-- Handles by their names, as the engine keeps them and as the machine has them.
use Rattle.std.proofs.Common.{◌≡◌, List, [], ◌∷◌, ◌++◌, length, map, Bool, true, false, ◌||◌, cond, bytes_eq, Option, Some, None, is_some, option_map, suc, refl, sym, ap, subst, ◌∙◌}
use Rattle.std.proofs.lemmas.List.{map-append}
use Rattle.std.proofs.lemmas.Slice.Eq.{bytes_eq-Decides}
use Rattle.plan_project.specs.Lookups.{Agree}
use Rattle.line_engine.proofs.Names.{bytes_eq-sym}
use Rattle.line_engine.specs.Handles.{handle_kept, handle_under, held_as}
use Rattle.line_engine.specs.Kept.{HandleKept}
use Rattle.line_engine.specs.Stands.{KeepsHandle, KeepsHandles}
use Rattle.relay_machine.specs.Machine.{Handle, Project, handle_named, without_handle}
use Rattle.plan_ir.specs.schema_tables.Types.{Text}
use Rattle.store_retain.specs.Kept.{held_under, is_live, without}
use Rattle.store_retain.specs.declared.held.Held.{Held}

-- ---- one for one

module _ (p : Project) where
  either : (b : Bool) (k : HandleKept) (h : Handle) (x : Option HandleKept) (y : Option Handle) → KeepsHandle p k h → Agree (KeepsHandle p) x y
      → Agree (KeepsHandle p) (cond b (Some k) x) (cond b (Some h) y)
  either true k h x y keeps rest = keeps
  either false k h x y keeps rest = rest

  -- under each name both have a handle, or neither has
  pub agrees : (ks : List HandleKept) (hs : List Handle) (name : Text) → KeepsHandles p ks hs → Agree (KeepsHandle p) (handle_under ks name) (handle_named hs name)
  agrees [] [] name keeps = tt
  agrees [] (h ∷ hs) name keeps = absurd keeps
  agrees (k ∷ ks) [] name keeps = absurd keeps
  agrees (k ∷ ks) (h ∷ hs) name keeps =
      subst (λ b. Agree (KeepsHandle p) (handle_under (k ∷ ks) name) (cond b (Some h) (handle_named hs name))) (ap (λ t. bytes_eq t name) keeps.0.name)
      (either (bytes_eq k.name name) k h (handle_under ks name) (handle_named hs name) keeps.0 (agrees ks hs name keeps.1))

  pub as_many : (ks : List HandleKept) (hs : List Handle) → KeepsHandles p ks hs → length ks ≡ length hs
  as_many [] [] keeps = refl
  as_many [] (h ∷ hs) keeps = absurd keeps
  as_many (k ∷ ks) [] keeps = absurd keeps
  as_many (k ∷ ks) (h ∷ hs) keeps = ap (λ n. suc n) (as_many ks hs keeps.1)

  -- one more
  pub one_more : (ks : List HandleKept) (hs : List Handle) (k : HandleKept) (h : Handle) → KeepsHandles p ks hs → KeepsHandle p k h
      → KeepsHandles p (ks ++ k ∷ []) (hs ++ h ∷ [])
  one_more [] [] k h keeps last = (last, tt)
  one_more [] (g ∷ hs) k h keeps last = absurd keeps
  one_more (j ∷ ks) [] k h keeps last = absurd keeps
  one_more (j ∷ ks) (g ∷ hs) k h keeps last = (keeps.0, one_more ks hs k h keeps.1 last)

  -- one less
  less : (b : Bool) (x : Text × Held) (xs ys : List (Text × Held)) (h : Handle) (hs gs : List Handle) → KeepsHandle p (handle_kept x) h
      → KeepsHandles p (map handle_kept xs) hs → KeepsHandles p (map handle_kept ys) gs → KeepsHandles p (map handle_kept (cond b xs (x ∷ ys))) (cond b hs (h ∷ gs))
  less true x xs ys h hs gs first all rest = all
  less false x xs ys h hs gs first all rest = (first, rest)

  pub one_less : (xs : List (Text × Held)) (hs : List Handle) (name : Text) → KeepsHandles p (map handle_kept xs) hs
      → KeepsHandles p (map handle_kept (without name xs)) (without_handle name hs)
  one_less [] [] name keeps = tt
  one_less [] (h ∷ hs) name keeps = absurd keeps
  one_less (x ∷ xs) [] name keeps = absurd keeps
  one_less (x ∷ xs) (h ∷ hs) name keeps =
      subst (λ b. KeepsHandles p (map handle_kept (without name (x ∷ xs))) (cond b hs (h ∷ without_handle name hs)))
      (bytes_eq-sym name x.0 ∙ ap (λ t. bytes_eq t name) keeps.0.name)
      (less (bytes_eq name x.0) x xs (without name xs) h hs (without_handle name hs) keeps.0 keeps.1 (one_less xs hs name keeps.1))

-- ---- the handles as they are held

pub kept_after : (xs : List (Text × Held)) (name : Text) (held : Held) → map handle_kept (xs ++ (name, held) ∷ []) ≡ map handle_kept xs ++ held_as name held ∷ []
kept_after xs name held = map-append handle_kept xs ((name, held) ∷ [])

here : (b : Bool) (name key : Text) (h : Held) (o : Option Held) → (b ≡ true → name ≡ key)
    → option_map (held_as name) (cond b (Some h) o) ≡ cond b (Some (held_as key h)) (option_map (held_as name) o)
here true name key h o same = ap (λ t. Some (held_as t h)) (same refl)
here false name key h o same = refl

-- what is held under a name is the handle of the name
pub under_is : (name : Text) (xs : List (Text × Held)) → option_map (held_as name) (held_under name xs) ≡ handle_under (map handle_kept xs) name
under_is name [] = refl
under_is name (x ∷ xs) =
    here (bytes_eq name x.0) name x.0 x.1 (held_under name xs) (λ h. (bytes_eq-Decides name x.0).0 h)
    ∙ (λ i. cond (bytes_eq-sym name x.0 i) (Some (handle_kept x)) (under_is name xs i))

pub whether_some : {X Y : Type 0} (f : X → Y) (o : Option X) → is_some (option_map f o) ≡ is_some o
whether_some f None = refl
whether_some f (Some x) = refl

-- whether a handle of a name is there, either way
pub is_some-under : (name : Text) (xs : List (Text × Held)) → is_some (handle_under (map handle_kept xs) name) ≡ is_some (held_under name xs)
is_some-under name xs = sym (ap is_some (under_is name xs)) ∙ whether_some (held_as name) (held_under name xs)

first_or : (b rest : Bool) (h : Held) (o : Option Held) → is_some o ≡ rest → is_some (cond b (Some h) o) ≡ (b || rest)
first_or true rest h o e = refl
first_or false rest h o e = e

pub live_is : (name : Text) (xs : List (Text × Held)) → is_some (held_under name xs) ≡ is_live xs name
live_is name [] = refl
live_is name (x ∷ xs) = first_or (bytes_eq name x.0) (is_live xs name) x.1 (held_under name xs) (live_is name xs)
