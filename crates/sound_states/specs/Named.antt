-- Named states of the machine: no two of what is live have one name, and the handles of watches are live.
use Rattle.std.specs.Prelude.{◌≡◌, Bool, false, List, [], ◌∷◌, bytes_eq, Some}
use Rattle.std.specs.List.{AllByRecursion, list_any}
use Rattle.plan_ir.specs.schema_tables.Types.{Text}
use Rattle.relay_machine.specs.Machine.{Handle, Layer, State, Watch, handle_named}

-- whether one of a list has the name
abbrev pub is_named : {X : Type 0} → (X → Text) → List X → Text → Bool
is_named name xs n = list_any (λ x. bytes_eq (name x) n) xs

-- no two of a list have one name
abbrev pub AreApart : {X : Type 0} → (X → Text) → List X → Type 0
AreApart name [] = Unit {0}
AreApart name (x ∷ xs) = (is_named name xs (name x) ≡ false) × AreApart name xs

abbrev pub handle_name : Handle → Text
handle_name h = h.name

abbrev pub layer_name : Layer → Text
layer_name l = l.name

abbrev pub watch_name : Watch → Text
watch_name w = w.name

-- the handle with which the watch was started is live, with the same operation and the same values
abbrev pub IsHeld : List Handle → Watch → Type 0
IsHeld hs w = handle_named hs w.handle.name ≡ Some w.handle

pub record IsNamed (s : State) : Type 0 where
  pub layers : AreApart layer_name s.layers
  pub handles : AreApart handle_name s.handles
  pub watches : AreApart watch_name s.watches
  pub held : AllByRecursion (IsHeld s.handles) s.watches
