-- Steps of the walk of a response.
use Rattle.std.proofs.Common.{◌≡◌, ℕ, zero, suc, ◌+◌, ◌*◌, ◌<◌, ◌≤◌, Bool, true, false, cond, List, [], ◌∷◌, ◌++◌, drop, length, get_or, bytes_eq, Option, Some, None, option_map, Ordering, Less, Equal, Greater, nat_cmp, append_assoc, add-one, drop-cons, refl, sym, ap, ◌∙◌, arith, true≢false, max}
use Rattle.std.proofs.Math.Nat.{le-max_left, le-max_right}
use Rattle.std.proofs.lemmas.Map.Text.{is_eq-slice_cmp}
use Rattle.std.proofs.lemmas.Slice.Eq.{bytes_eq-Decides}
use Rattle.std.specs.Bool.{Decides}
use Rattle.std.specs.Cmp.Lexicographic.{slice_cmp}
use Rattle.std.specs.Map.{lookup}
use Rattle.std.specs.Ordering.{is_eq, match_ordering}
use Rattle.plan_ir.specs.NormalMeaning.{Plan, collect_plan}
use Rattle.plan_ir.specs.gql_plain.declared.plain.Plain.TheVariants.{Null}
use Rattle.serde_json.specs.Data as J
use Rattle.serde_json.specs.Find.{get_member}
use Rattle.serde_json.specs.View.{items_view, view}
use Rattle.serde_json.specs.declared.value.Value.{Value}
use Rattle.plan_ir.specs.store_model.Events.{plain_of_data}
use Rattle.plan_ir.specs.store_model.Items.{Below, Form, typename, leaf, one, many, Group}
use Rattle.plan_ir.specs.store_model.Says.{Made, Path, Report, Walk, both, element_of, elements_of, elements_under, form_says, group_says, groups_say, leaf_of, link_of, no_report, walk_of, walks_of}
use Rattle.plan_ir.specs.store_model.declared.payload_fault.PathStep.TheVariants.{Index}
use Rattle.store_norm.proofs.Reports.{gathered_both}
use Rattle.store_norm.specs.Caching.{has_objects}
use Rattle.store_norm.specs.Walk.{group_told, is_typename}
use Rattle.plan_ir.specs.store_record.Keys.{Text}
use Rattle.store_report.specs.Gathering.{Gathering, gathered_onto}

-- ---- the members of an object

same_answer : (a b : Text) → bytes_eq a b ≡ bytes_eq b a
same_answer a b = at (bytes_eq a b) (bytes_eq b a) (bytes_eq-Decides a b) (bytes_eq-Decides b a)
  where
    at : (x y : Bool) → Decides x (a ≡ b) → Decides y (b ≡ a) → x ≡ y
    at true true dx dy = refl
    at true false dx dy = sym (dy.1 (sym (dx.0 refl)))
    at false true dx dy = dx.1 (sym (dy.0 refl))
    at false false dx dy = refl

found_at : (o : Ordering) (b : Bool) → is_eq o ≡ b → (d : J.Data) (x : Option (Walk Plan)) (y : Option J.Data) → x ≡ option_map (walk_of collect_plan) y
    → cond b (Some (walk_of collect_plan d)) x ≡ option_map (walk_of collect_plan) (match_ordering o y (Some d) y)
found_at Less b e d x y same = ap (λ c. cond c (Some (walk_of collect_plan d)) x) (sym e) ∙ same
found_at Equal b e d x y same = ap (λ c. cond c (Some (walk_of collect_plan d)) x) (sym e)
found_at Greater b e d x y same = ap (λ c. cond c (Some (walk_of collect_plan d)) x) (sym e) ∙ same

-- the walk of a member is that of its value
pub lookup_walk : (key : Text) (ms : J.Members) → lookup (λ k. bytes_eq k key) (walks_of collect_plan ms) ≡ option_map (walk_of collect_plan) (get_member key ms)
lookup_walk key J.no_members = refl
lookup_walk key (J.member k d ms) =
    found_at (slice_cmp nat_cmp key k) (bytes_eq k key) (is_eq-slice_cmp key k ∙ same_answer key k) d (lookup (λ k. bytes_eq k key) (walks_of collect_plan ms)) (get_member key ms) (lookup_walk key ms)

-- ---- the form of a field

form_told : (f : Form) (r : Report) → is_typename f ≡ false → form_says f r ≡ r
form_told typename r e = absurd (true≢false e)
form_told leaf r e = refl
form_told (one b) r e = refl
form_told (many b) r e = refl

form_silent : (f : Form) (r : Report) → is_typename f ≡ true → form_says f r ≡ no_report
form_silent typename r e = refl
form_silent leaf r e = absurd (true≢false (sym e))
form_silent (one b) r e = absurd (true≢false (sym e))
form_silent (many b) r e = absurd (true≢false (sym e))

form_none : (f : Form) → form_says f no_report ≡ no_report
form_none typename = refl
form_none leaf = refl
form_none (one b) = refl
form_none (many b) = refl

-- what stands under `__typename` is told elsewhere
pub told_typename : (id : Text) (path : Path) (ms : J.Members) (g : Group Plan) → is_typename g.first.ask.form ≡ true → group_told id path ms g ≡ no_report
told_typename id path ms g e = form_silent g.first.ask.form (group_says collect_plan id path g (lookup (λ k. bytes_eq k g.first.ask.response) (walks_of collect_plan ms))) e

-- a response key that is absent says nothing
pub told_absent : (id : Text) (path : Path) (ms : J.Members) (g : Group Plan) → get_member g.first.ask.response ms ≡ None → group_told id path ms g ≡ no_report
told_absent id path ms g e =
    ap (λ w. form_says g.first.ask.form (group_says collect_plan id path g w)) (lookup_walk g.first.ask.response ms ∙ ap (option_map (walk_of collect_plan)) e)
    ∙ form_none g.first.ask.form

pub told_present : (id : Text) (path : Path) (ms : J.Members) (g : Group Plan) (d : J.Data) → is_typename g.first.ask.form ≡ false → get_member g.first.ask.response ms ≡ Some d
    → group_told id path ms g ≡ group_says collect_plan id path g (Some (walk_of collect_plan d))
told_present id path ms g d e there =
    form_told g.first.ask.form (group_says collect_plan id path g (lookup (λ k. bytes_eq k g.first.ask.response) (walks_of collect_plan ms))) e
    ∙ ap (group_says collect_plan id path g) (lookup_walk g.first.ask.response ms ∙ ap (option_map (walk_of collect_plan)) there)

-- ---- what a value says under a form

pub typename_walk : (d : J.Data) (fs : List Plan) (made : Made) (path : Path) → walk_of collect_plan d typename fs made path ≡ leaf_of (Some Null) path
typename_walk J.null fs made path = refl
typename_walk (J.boolean b) fs made path = refl
typename_walk (J.number n) fs made path = refl
typename_walk (J.string s) fs made path = refl
typename_walk (J.array ds) fs made path = refl
typename_walk (J.object ms) fs made path = refl

pub leaf_walk : (d : J.Data) (fs : List Plan) (made : Made) (path : Path) → walk_of collect_plan d leaf fs made path ≡ leaf_of (plain_of_data d) path
leaf_walk J.null fs made path = refl
leaf_walk (J.boolean b) fs made path = refl
leaf_walk (J.number n) fs made path = refl
leaf_walk (J.string s) fs made path = refl
leaf_walk (J.array ds) fs made path = refl
leaf_walk (J.object ms) fs made path = refl

pub one_walk : (d : J.Data) (b : Below) (fs : List Plan) (made : Made) (path : Path) → walk_of collect_plan d (one b) fs made path ≡ link_of (element_of collect_plan d b fs (made None) path)
one_walk J.null b fs made path = refl
one_walk (J.boolean x) b fs made path = refl
one_walk (J.number n) b fs made path = refl
one_walk (J.string s) b fs made path = refl
one_walk (J.array ds) b fs made path = refl
one_walk (J.object ms) b fs made path = refl

-- where no objects stand, the value says the same whatever is asked below
pub below_walk : (d : J.Data) (f : Form) (fs : List Plan) (made : Made) (path : Path) → walk_of collect_plan d f (cond (has_objects f) fs []) made path ≡ walk_of collect_plan d f fs made path
below_walk d typename fs made path = typename_walk d [] made path ∙ sym (typename_walk d fs made path)
below_walk d leaf fs made path = leaf_walk d [] made path ∙ sym (leaf_walk d fs made path)
below_walk d (one b) fs made path = refl
below_walk d (many b) fs made path = refl

-- ---- lists

pub drop_at : {A : Type 0} (xs : List A) (i : ℕ) (x : A) → i < length xs → x ≡ get_or xs i x → drop i xs ≡ x ∷ drop (i + 1) xs
drop_at xs i x within is = drop-cons xs i x within ∙ (λ j. sym is j ∷ drop (sym (add-one i) j) xs)

-- a list and its elements, an object and its members
pub element_below : (inner outer : ℕ) → inner ≤ outer → 10 * inner + 5 < 10 * suc outer + 5
element_below inner outer h = omega (arith, h)

pub element_deep : (items : List Value) (i : ℕ) (x : Value) → i < length items → x ≡ get_or items i x → J.depth (view x) ≤ J.items_depth (items_view items)
element_deep [] i x within is = absurd (omega (arith, within))
element_deep (y ∷ ys) zero x within is =
    let here : J.depth (view y) ≤ max (J.depth (view y)) (J.items_depth (items_view ys)) = le-max_left (J.depth (view y)) (J.items_depth (items_view ys)) in
    omega (arith, here, ap (λ (v : Value). J.depth (view v)) is)
element_deep (y ∷ ys) (suc i) x within is =
    let rest : J.items_depth (items_view ys) ≤ max (J.depth (view y)) (J.items_depth (items_view ys)) = le-max_right (J.depth (view y)) (J.items_depth (items_view ys)) in
    let there : J.depth (view x) ≤ J.items_depth (items_view ys) = element_deep ys i x (omega (arith, within)) is in
    omega (arith, rest, there)

module _ (items : List Value) (at : ℕ) (x : Value) (b : Below) (fs : List Plan) (made : Made) (path here : Path)
    (within : at < length items) (is : x ≡ get_or items at x) (there : here ≡ path ++ Index at ∷ []) where
  -- what the elements from a place on say
  abbrev left : ℕ → List Value → List (Option Text) × Report
  left n ys = elements_under (elements_of collect_plan (items_view ys)) b fs made n path

  abbrev said_by : Path → Option Text × Report
  said_by p = element_of collect_plan (view x) b fs (made (Some at)) p

  pub elements_said : (start g more : Gathering) → gathered_onto g (left at (drop at items)).1 ≡ start → more ≡ gathered_onto g (said_by here).1
      → gathered_onto more (left (at + 1) (drop (at + 1) items)).1 ≡ start
  elements_said start g more first second =
      ap (λ m. gathered_onto m (left (at + 1) (drop (at + 1) items)).1) second
      ∙ gathered_both g (said_by here).1 (left (at + 1) (drop (at + 1) items)).1
      ∙ ap (λ p. gathered_onto g (both (said_by p).1 (left (at + 1) (drop (at + 1) items)).1)) there
      ∙ sym (ap (λ ys. gathered_onto g (left at ys).1) (drop_at items at x within is))
      ∙ first

  pub elements_ids : (start ids more : List (Option Text)) (id : Option Text) → ids ++ (left at (drop at items)).0 ≡ start → id ≡ (said_by here).0 → more ≡ ids ++ id ∷ []
      → more ++ (left (at + 1) (drop (at + 1) items)).0 ≡ start
  elements_ids start ids more id first second third =
      ap (λ m. m ++ (left (at + 1) (drop (at + 1) items)).0) third
      ∙ append_assoc ids (id ∷ []) (left (at + 1) (drop (at + 1) items)).0
      ∙ (λ i. ids ++ second i ∷ (left (at + 1) (drop (at + 1) items)).0)
      ∙ ap (λ p. ids ++ (said_by p).0 ∷ (left (at + 1) (drop (at + 1) items)).0) there
      ∙ sym (ap (λ ys. ids ++ (left at ys).0) (drop_at items at x within is))
      ∙ first

-- one group more of those that are left
pub groups_said : (id : Text) (path : Path) (ms : J.Members) (groups : List (Group Plan)) (at : ℕ) (g : Group Plan) → at < length groups → g ≡ get_or groups at g
    → (start now more : Gathering) → gathered_onto now (groups_say collect_plan id path (walks_of collect_plan ms) (drop at groups)) ≡ start
    → more ≡ gathered_onto now (group_told id path ms g) → gathered_onto more (groups_say collect_plan id path (walks_of collect_plan ms) (drop (at + 1) groups)) ≡ start
groups_said id path ms groups at g within is start now more first second =
    let rest = groups_say collect_plan id path (walks_of collect_plan ms) (drop (at + 1) groups) in
    ap (λ m. gathered_onto m rest) second ∙ gathered_both now (group_told id path ms g) rest
    ∙ sym (ap (λ gs. gathered_onto now (groups_say collect_plan id path (walks_of collect_plan ms) gs)) (drop_at groups at g within is)) ∙ first

-- a member is less deep than its object
pub member_below : (inner outer : ℕ) → inner < outer → 10 * inner + 8 < 10 * outer
member_below inner outer h = omega (arith, h)
