-- What is retained, and the ids that it keeps (this project's own).
use Rattle.std.specs.Prelude.{ℕ, Bool, List, [], ◌∷◌, ◌++◌, map, cond, bytes_eq, Option, Some, None}
use Rattle.std.specs.List.{list_any}
use Rattle.circular_buffer.specs.Buffer.{keep_last}
use Rattle.plan_ir.specs.gql_plain.Order.{has_text}
use Rattle.plan_ir.specs.NormalReach.{plan_reaches}
use Rattle.plan_ir.specs.store_model.Walks.{Slots, type_of_record}
use Rattle.plan_ir.specs.store_record.Keys.{Text, root}
use Rattle.store_retain.specs.declared.held.Held.{Held}

-- how many released operations are kept at most, the live handles in order of start, and the released operations, the latest last
pub record Kept : Type 0 where
  pub buffer : ℕ
  pub live : List (Text × Held)
  pub released : List Held

-- ---- handles

abbrev pub is_live : List (Text × Held) → Text → Bool
is_live live name = list_any (λ (h : Text × Held). bytes_eq name h.0) live

-- what the first handle of a name holds
abbrev pub held_under : Text → List (Text × Held) → Option Held
held_under name [] = None
held_under name (h ∷ hs) = cond (bytes_eq name h.0) (Some h.1) (held_under name hs)

-- all handles but it
abbrev pub without : Text → List (Text × Held) → List (Text × Held)
without name [] = []
without name (h ∷ hs) = cond (bytes_eq name h.0) hs (h ∷ without name hs)

-- ---- the calls

abbrev pub retained : Text → Held → Kept → Kept
retained name held k = record { buffer = k.buffer; live = k.live ++ (name, held) ∷ []; released = k.released }

abbrev pub some_held : Option Held → List Held
some_held None = []
some_held (Some h) = h ∷ []

-- the handle leaves, and what it held is the latest that was released; the oldest leaves where there is no place for it
abbrev pub released : Text → Kept → Kept
released name k = record { buffer = k.buffer; live = without name k.live; released = keep_last k.buffer (k.released ++ some_held (held_under name k.live)) }

-- ---- what is kept

abbrev pub all_held : Kept → List Held
all_held k = map (λ (h : Text × Held). h.1) k.live ++ k.released

-- the ids that the walk by an operation's plan stands at, from the root on
abbrev pub reaches : Slots → Held → List Text
reaches m h = plan_reaches (type_of_record h.env.value.root) m h.env.value.values h.normal.value.steps (h.env.value.root ∷ []) root

-- whether an id is one of those of some operation, live or released
abbrev pub is_kept : Slots → List Held → Text → Bool
is_kept m held j = list_any (λ h. has_text (reaches m h) j) held
