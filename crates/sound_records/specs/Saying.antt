-- Payloads that are said soundly: where the groups that selections give on an object type are of object types, however many stand below one another.
use Rattle.std.specs.Prelude.{◌≡◌, ℕ, zero, suc, Bool, true, false, List, [], bytes_eq, unwrap_or}
use Rattle.std.specs.List.{AllByRecursion}
use Rattle.serde_json.specs.Data as J
use Rattle.store_model.specs.gql_plain.Order.{has_text}
use Rattle.store_model.specs.store_record.Keys.{Text}
use Rattle.store_model.specs.Items.{Form, typename, leaf, one, many, key_of, Group, asks, parts, Collect, groups_at}
use Rattle.store_model.specs.Reaches.{types_of}
use Rattle.store_model.specs.Records.{typename as typename_key}
use Rattle.store_model.specs.Said.{Said}
use Rattle.store_model.specs.Says.{first_of, handles, info_of}
use Rattle.store_model.specs.Verdicts.{content, says}
use Rattle.sound_records.specs.Sound.{IsSoundSaid}

-- what is no type name stands under another key
abbrev pub StandsApart : Form → (key : Text) → Type 0
StandsApart typename key = Unit {0}
StandsApart leaf key = bytes_eq key typename_key ≡ false
StandsApart (one b) key = bytes_eq key typename_key ≡ false
StandsApart (many b) key = bytes_eq key typename_key ≡ false

-- a group's possible types are object types, `inside` is known of what stands below it on each of them, and the pages that it asks for have such types
pub record IsTyped {F : Type 0} (object : Text → Bool) (collect : Collect F) (inside : Text → List F → Type 0) (g : Group F) : Type 0 where
  pub key : StandsApart g.first.ask.form (key_of g.first.ask)
  pub types : AllByRecursion (λ T. object T ≡ true) (types_of g.first.ask.form)
  pub below : (T : Text) → has_text (types_of g.first.ask.form) T ≡ true → inside T (parts g)
  pub page : (key : Text) → has_text (handles (asks g)) key ≡ true → object (unwrap_or (first_of (types_of g.first.ask.form)) []) ≡ true
  pub info : (key : Text) → has_text (handles (asks g)) key ≡ true → object (info_of collect (first_of (types_of g.first.ask.form)) (parts g)) ≡ true

-- the groups that parts give on an object type are so, and those below them, so many below one another
abbrev pub AreTyped : {F : Type 0} → (object : Text → Bool) → Collect F → (levels : ℕ) → Text → List F → Type 0
AreTyped object collect zero T fs = Unit {0}
AreTyped object collect (suc n) T fs = AllByRecursion (IsTyped object collect (λ U gs. AreTyped object collect n U gs)) (groups_at collect T fs)

-- what a payload says is sound, where they are so however many stand below one another
abbrev pub PayloadsAreSound : Type 0 → Type 0
PayloadsAreSound F = (object : Text → Bool) (collect : Collect F) (T : Text) (fs : List F) → object T ≡ true → ((levels : ℕ) → AreTyped object collect levels T fs)
    → (response : J.Data) (said : Said) → says collect T fs response ≡ content said → IsSoundSaid object said
