-- What is gathered of a field, and of an object.
use Rattle.std.proofs.Common.{◌≡◌, ℕ, List, length, get_or, ap, ◌∙◌}
use Rattle.plan_ir.specs.NormalMeaning.{Plan, collect_plan}
use Rattle.serde_json.specs.Data as J
use Rattle.plan_ir.specs.store_model.Items.{Below, groups_at}
use Rattle.plan_ir.specs.store_model.Says.{Path, Report, both, put_at}
use Rattle.store_norm.proofs.CacheSteps.{right_at, type_name}
use Rattle.store_norm.proofs.Reports.{gathered_both}
use Rattle.store_norm.specs.CacheView.{AreRight, IsTypeAt}
use Rattle.store_norm.specs.Walk.{object_told}
use Rattle.store_norm.specs.declared.cache.TypeGroups.{TypeGroups}
use Rattle.plan_ir.specs.store_record.Keys.{Text}
use Rattle.plan_ir.specs.store_record.declared.field.Field.{Field}
use Rattle.store_report.proofs.Joins.{gathering_right}
use Rattle.store_report.specs.Gathering.{Gathering, gathered_onto, with_value}

-- one after another
pub said_twice : (g h k : Gathering) (a b : Report) → h ≡ gathered_onto g a → k ≡ gathered_onto h b → k ≡ gathered_onto g (both a b)
said_twice g h k a b first second = second ∙ ap (λ x. gathered_onto x b) first ∙ gathered_both g a b

pub said_thrice : (g h k m : Gathering) (a b c : Report) → h ≡ gathered_onto g a → k ≡ gathered_onto h b → m ≡ gathered_onto k c → m ≡ gathered_onto g (both a (both b c))
said_thrice g h k m a b c first second third = said_twice g h m a (both b c) first (said_twice h k m b c second third)

module _ (g h k m : Gathering) (id key : Text) (old : Field) (path : Path) (pages rest : Report) (at : ℕ) (place : at ≡ length g.puts)
    (put : h ≡ gathered_onto g (put_at id key old path)) (paged : k ≡ gathered_onto h pages) (said : m ≡ gathered_onto k rest) where
  whole : m ≡ gathered_onto (gathered_onto g (put_at id key old path)) (both pages rest)
  whole = said_twice h k m pages rest paged said ∙ ap (λ x. gathered_onto x (both pages rest)) put

  -- its value is set when what stands below is said
  pub field_said : (value : Field) (n : Gathering) → n ≡ with_value at value m → n ≡ gathered_onto g (both (put_at id key value path) (both pages rest))
  field_said value n set =
      set ∙ (λ i. with_value (place i) value (whole i)) ∙ gathering_right.set g id key old value path (both pages rest)

-- an object of a type is told by the groups that the cache has for the type
pub type_told : (ms : J.Members) (b : Below) (qs ps : List Plan) (ts : List TypeGroups) (at : ℕ) (x : TypeGroups) (name made : Text) (path : Path)
    → AreRight qs ts → IsTypeAt ts at name → x ≡ get_or ts at x → qs ≡ ps → object_told ms b x.name.now x.groups made path ≡ object_told ms b name (groups_at collect_plan name ps) made path
type_told ms b qs ps ts at x name made path right place is same =
    let named : x.name.now ≡ name = type_name ts at x name place is in
    let groups : x.groups ≡ groups_at collect_plan name ps = (right_at qs ts at x name right place is).groups ∙ (λ i. groups_at collect_plan (named i) (same i)) in
    λ i. object_told ms b (named i) (groups i) made path
