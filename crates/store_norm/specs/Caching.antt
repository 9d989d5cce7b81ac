-- What a cache of groups is seen as: the plans whose groups it has.
use Rattle.std.specs.Prelude.{ℕ, Bool, true, false, cond, List, [], ◌∷◌, map, max, refl}
use Rattle.std.specs.Coded.{Coded, code_by, coded_list}
use Rattle.plan_groups.specs.Codes.{coded_plan}
use Rattle.plan_ir.specs.Normal.{depth}
use Rattle.plan_ir.specs.NormalMeaning.{Plan}
use Rattle.plan_ir.specs.store_model.Items.{Form, typename, leaf, one, many, Group, parts}

pub record Caching : Type 0 where
  pub parts : List Plan

abbrev pub coded_caching : Coded Caching
coded_caching = code_by (List Plan) (coded_list coded_plan) (λ c. c.parts) (λ ps. record { parts = ps }) (λ _. refl)

-- how deep the deepest of plans is
abbrev pub room : List Plan → ℕ
room [] = 0
room (p ∷ ps) = max (depth p.steps) (room ps)

-- whether objects, or a list of them, stand under a field
abbrev pub has_objects : Form → Bool
has_objects typename = false
has_objects leaf = false
has_objects (one b) = true
has_objects (many b) = true

-- the plans that are asked of what stands below a group: none where no objects stand there
abbrev pub parts_below : Group Plan → List Plan
parts_below g = cond (has_objects g.first.ask.form) (parts g) []

-- what lies below groups
abbrev pub caches : List (Group Plan) → List Caching
caches groups = map (λ g. record { parts = parts_below g }) groups

-- the plans of caches
abbrev pub plans_of : List Caching → List (List Plan)
plans_of cs = map (λ c. c.parts) cs

-- the plans that are asked of what stands below groups
abbrev pub parts_of : List (Group Plan) → List (List Plan)
parts_of groups = map parts_below groups
