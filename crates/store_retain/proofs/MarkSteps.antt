-- What held operations keep.
use Rattle.std.proofs.Common.{◌≡◌, ℕ, ◌+◌, Bool, ◌||◌, List, [], ◌∷◌, ◌++◌, map, String, Global, refl, sym, ap, ◌∙◌}
use Rattle.circular_buffer.specs.Buffer.{Buffer}
use Rattle.plan_ir.specs.gql_plain.Order.{has_text}
use Rattle.plan_ir.specs.NormalMeaning.{Plan, collect_plan}
use Rattle.plan_ir.specs.NormalReach.{records_below}
use Rattle.plan_ir.specs.store_model.Reaches.{reach_at}
use Rattle.plan_ir.specs.store_model.Walks.{Slots, type_of_record}
use Rattle.plan_ir.specs.store_record.Keys.{Text, root}
use Rattle.store_retain.proofs.Bools.{or_assoc, or_false, any_append}
use Rattle.store_retain.proofs.Reaching.{reach_same}
use Rattle.store_retain.specs.Kept.{Kept, all_held, is_kept, reaches}
use Rattle.store_retain.specs.KeptView.{kept_of, live_of}
use Rattle.store_retain.specs.Reach.{reach_step}
use Rattle.store_retain.specs.Stands.{StandsFor}
use Rattle.store_retain.specs.Steps.{Found}
use Rattle.store_retain.specs.Ways.{Parts}
use Rattle.store_retain.specs.declared.held.Held.{Held}

abbrev plan_of : Held → Plan
plan_of h = record { environment = h.env.value.values; steps = h.normal.value.steps }

-- the walk along the part of a plan stands where the plan's reach does
pub mark_is : (m : Slots) (ps : Parts) (h : Held) (number rounds levels : ℕ) (types : List Text) (T id : Text) → rounds ≡ levels + 1 → levels ≡ records_below h.normal.value.steps → types ≡ T ∷ [] → T ≡ h.env.value.root → id ≡ root
    → ((n : ℕ) → StandsFor ps n number (plan_of h)) → reach_step m T ps rounds (record { id = id; types = types; parts = number ∷ [] }) ≡ reaches m h
mark_is m ps h number rounds levels types T id more below one name at stands =
    sym (reach_same m T ps rounds types (plan_of h ∷ []) (number ∷ []) id (stands rounds, tt))
    ∙ (λ i. reach_at collect_plan (type_of_record (name i)) m ((more ∙ ap (λ n. n + 1) below) i) ((one ∙ ap (λ t. t ∷ []) name) i) (plan_of h ∷ []) (at i))

-- one more operation
pub kept_next : (m : Slots) (j : Text) (h : Held) (hs left : List Held) (old new whole : Bool) → left ≡ h ∷ hs → new ≡ (old || has_text (reaches m h) j) → (old || is_kept m left j) ≡ whole → (new || is_kept m hs j) ≡ whole
kept_next m j h hs left old new whole is here before =
    ap (λ b. b || is_kept m hs j) here ∙ or_assoc old (has_text (reaches m h) j) (is_kept m hs j) ∙ ap (λ xs. old || is_kept m xs j) (sym is) ∙ before

-- the last one
pub kept_end : (m : Slots) (j : Text) (left start all : List Held) (old now : Bool) → left ≡ [] → (now || is_kept m left j) ≡ (old || is_kept m start j) → start ≡ all → now ≡ (old || is_kept m all j)
kept_end m j left start all old now none same is = sym (or_false now) ∙ ap (λ hs. now || is_kept m hs j) (sym none) ∙ same ∙ ap (λ hs. old || is_kept m hs j) is

-- live and released
kept_both : (m : Slots) (j : Text) (xs ys : List Held) (none mid new : Bool) → mid ≡ (none || is_kept m xs j) → new ≡ (mid || is_kept m ys j) → new ≡ (none || is_kept m (xs ++ ys) j)
kept_both m j xs ys none mid new first second =
    second ∙ ap (λ b. b || is_kept m ys j) first ∙ or_assoc none (is_kept m xs j) (is_kept m ys j) ∙ ap (λ b. none || b) (sym (any_append (λ h. has_text (reaches m h) j) xs ys))

live_values : (named : List (String Global × Held)) → map (λ (h : Text × Held). h.1) (live_of named) ≡ map (λ (h : String Global × Held). h.1) named
live_values [] = refl
live_values (h ∷ hs) = ap (λ (rest : List Held). h.1 ∷ rest) (live_values hs)

-- what all keep, where nothing was found before
pub kept_all : (m : Slots) (j : Text) (named : List (String Global × Held)) (b : Buffer Held) (k : Kept) (start mid end : Found) → start ≡ record { ids = []; next = [] } → kept_of named b ≡ k
    → has_text mid.ids j ≡ (has_text start.ids j || is_kept m (map (λ (h : String Global × Held). h.1) named) j) → has_text end.ids j ≡ (has_text mid.ids j || is_kept m b.items j)
    → has_text end.ids j ≡ is_kept m (all_held k) j
kept_all m j named b k start mid end none view first second =
    kept_both m j (map (λ (h : String Global × Held). h.1) named) b.items (has_text start.ids j) (has_text mid.ids j) (has_text end.ids j) first second
    ∙ ap (λ (f : Found). has_text f.ids j || is_kept m (map (λ (h : String Global × Held). h.1) named ++ b.items) j) none
    ∙ ap (λ (hs : List Held). is_kept m (hs ++ b.items) j) (sym (live_values named))
    ∙ ap (λ (w : Kept). is_kept m (all_held w) j) view
