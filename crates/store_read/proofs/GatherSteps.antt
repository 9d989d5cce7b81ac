-- Steps of gathering what plans and their steps ask.
use Rattle.std.proofs.Common.{◌≡◌, ℕ, zero, suc, ◌+◌, ◌<◌, cond, List, [], ◌∷◌, ◌++◌, map, drop, length, get_or, set, Option, Some, None, bytes_eq, add-one, Vec, Global, refl, ap, sym, ◌∙◌, arith}
use Rattle.std.proofs.Math.Seq.{drop-cons}
use Rattle.std.proofs.lemmas.List.{append-nil, length-map, map-append}
use Rattle.plan_ir.specs.gql_ast.Value.{Val}
use Rattle.plan_groups.proofs.PutSteps.{alone, grouped_next, place_new, put_new}
use Rattle.plan_groups.specs.Putting.{place_of, put_at, with_other}
use Rattle.plan_ir.specs.NormalMeaning.{guard_passes}
use Rattle.plan_ir.specs.Reader.{Reader, depth}
use Rattle.plan_ir.specs.ReaderMeaning.{ReaderPart, collect_reader, collect_reading}
use Rattle.plan_ir.specs.ReaderView.{step_before, step_of, steps_of}
use Rattle.plan_ir.specs.declared.guard.Guard.{Guard}
use Rattle.plan_ir.specs.declared.reader.ReaderPlan.{ReaderPlan}
use Rattle.plan_ir.specs.declared.reader.ReaderStep.{ReaderStep}
use Rattle.plan_ir.specs.declared.reader.ReaderStep.TheVariants as N
use Rattle.plan_ir.specs.schema_tables.Types.{Text}
use Rattle.plan_ir.specs.schema_types.Environments.{Values}
use Rattle.plan_ir.specs.store_model.Items.{Group, Item, Pointer, pointed, asked_of, collect_all, grouped_onto, with_asked}
use Rattle.store_read.proofs.SpreadSteps.{onto-append}
use Rattle.store_read.specs.FieldView.{asked_at, part_at, pointer_of}
use Rattle.store_read.specs.Gathering.{group_of}
use Rattle.store_read.specs.Spreads.{pointers_onto}
use Rattle.store_read.specs.declared.field.FieldAt.{FieldAt}
use Rattle.store_read.specs.declared.field.PartAt.{PartAt}
use Rattle.store_read.specs.declared.gathered.Fields.{Fields}

-- ---- depths

pub guarded_deep : (x : ReaderStep) (g : Guard) (child : ReaderPlan) → x ≡ N.Guarded g child → depth child.steps < depth (step_of x)
guarded_deep x g child e = let deep : depth (step_of x) ≡ depth child.steps + 2 = ap (λ (y : ReaderStep). depth (step_of y)) e ∙ omega arith in omega (arith, deep)

-- ---- items

-- the pointer of a step
pub collect_pointer : (env : Values) (T f : Text) (xs : List (Text × Val)) (inline : Option ReaderPlan)
    → collect_reading env T (step_of (N.Pointer f xs inline)) ≡ pointed (pointer_of env f xs inline) ∷ []
collect_pointer env T f xs None = refl
collect_pointer env T f xs (Some child) = refl

collect_before : (env : Values) (T : Text) (x : ReaderStep) (t : Reader) → collect_reading env T (step_before x t) ≡ collect_reading env T (step_of x) ++ collect_reading env T t
collect_before env T (N.Typename r) t = refl
collect_before env T (N.Leaf r n xs) t = refl
collect_before env T (N.Object r n xs m ts is o c child) t = refl
collect_before env T (N.Guarded g child) t =
    ap (λ (xs : List (Item ReaderPart)). xs ++ collect_reading env T t) (sym (append-nil (cond (guard_passes env T g) (collect_reading env T child.steps) [])))
collect_before env T (N.Pointer f xs None) t = refl
collect_before env T (N.Pointer f xs (Some child)) t = refl

-- the items behind a guard
pub guarded_items : (env : Values) (T : Text) (x : ReaderStep) (g : Guard) (child : ReaderPlan) → x ≡ N.Guarded g child
    → collect_reading env T (step_of x) ≡ cond (guard_passes env T g) (collect_reading env T child.steps) []
guarded_items env T x g child e =
    ap (λ (y : ReaderStep). collect_reading env T (step_of y)) e ∙ append-nil (cond (guard_passes env T g) (collect_reading env T child.steps) [])

module _ (env : Values) (T : Text) (xs : List ReaderStep) (i : ℕ) (x : ReaderStep) (h : i < length xs) (is : x ≡ get_or xs i x) where
  -- the items of this step, and of those after it
  pub steps_left : collect_reading env T (step_of x) ++ collect_reading env T (steps_of (drop (i + 1) xs)) ≡ collect_reading env T (steps_of (drop i xs))
  steps_left =
      let same : drop i xs ≡ get_or xs i x ∷ drop (i + 1) xs = rw add-one (drop-cons xs i x h) in
      sym (collect_before env T x (steps_of (drop (i + 1) xs)))
      ∙ ap (λ (y : ReaderStep). collect_reading env T (step_before y (steps_of (drop (i + 1) xs)))) is
      ∙ sym (ap (λ (ys : List ReaderStep). collect_reading env T (steps_of ys)) same)

  -- one more step
  pub steps_next : (old new whole : List (Group ReaderPart)) → new ≡ grouped_onto old (asked_of (collect_reading env T (step_of x)))
      → grouped_onto old (asked_of (collect_reading env T (steps_of (drop i xs)))) ≡ whole → grouped_onto new (asked_of (collect_reading env T (steps_of (drop (i + 1) xs)))) ≡ whole
  steps_next old new whole e w =
      ap (λ (gs : List (Group ReaderPart)). grouped_onto gs (asked_of (collect_reading env T (steps_of (drop (i + 1) xs))))) e
      ∙ grouped_next old (collect_reading env T (step_of x)) (collect_reading env T (steps_of (drop (i + 1) xs)))
      ∙ ap (λ (items : List (Item ReaderPart)). grouped_onto old (asked_of items)) steps_left ∙ w

  pub spreads_next : (old new whole : List (Pointer ReaderPart)) → new ≡ pointers_onto old (collect_reading env T (step_of x))
      → pointers_onto old (collect_reading env T (steps_of (drop i xs))) ≡ whole → pointers_onto new (collect_reading env T (steps_of (drop (i + 1) xs))) ≡ whole
  spreads_next old new whole e w =
      ap (λ (ps : List (Pointer ReaderPart)). pointers_onto ps (collect_reading env T (steps_of (drop (i + 1) xs)))) e
      ∙ sym (onto-append old (collect_reading env T (step_of x)) (collect_reading env T (steps_of (drop (i + 1) xs))))
      ∙ ap (pointers_onto old) steps_left ∙ w

module _ (T : Text) (ps : List PartAt) (i : ℕ) (p : PartAt) (h : i < length ps) (is : p ≡ get_or ps i p) where
  parts_left : collect_reader T (part_at p) ++ collect_all collect_reader T (map part_at (drop (i + 1) ps)) ≡ collect_all collect_reader T (map part_at (drop i ps))
  parts_left =
      let same : drop i ps ≡ get_or ps i p ∷ drop (i + 1) ps = rw add-one (drop-cons ps i p h) in
      ap (λ (q : PartAt). collect_reader T (part_at q) ++ collect_all collect_reader T (map part_at (drop (i + 1) ps))) is
      ∙ sym (ap (λ (qs : List PartAt). collect_all collect_reader T (map part_at qs)) same)

  -- one more plan
  pub parts_next : (old new whole : List (Group ReaderPart)) → new ≡ grouped_onto old (asked_of (collect_reader T (part_at p)))
      → grouped_onto old (asked_of (collect_all collect_reader T (map part_at (drop i ps)))) ≡ whole → grouped_onto new (asked_of (collect_all collect_reader T (map part_at (drop (i + 1) ps)))) ≡ whole
  parts_next old new whole e w =
      let later : List (Item ReaderPart) = collect_all collect_reader T (map part_at (drop (i + 1) ps)) in
      ap (λ (gs : List (Group ReaderPart)). grouped_onto gs (asked_of later)) e
      ∙ grouped_next old (collect_reader T (part_at p)) later
      ∙ ap (λ (items : List (Item ReaderPart)). grouped_onto old (asked_of items)) parts_left ∙ w

  pub part_spreads_next : (old new whole : List (Pointer ReaderPart)) → new ≡ pointers_onto old (collect_reader T (part_at p))
      → pointers_onto old (collect_all collect_reader T (map part_at (drop i ps))) ≡ whole → pointers_onto new (collect_all collect_reader T (map part_at (drop (i + 1) ps))) ≡ whole
  part_spreads_next old new whole e w =
      let later : List (Item ReaderPart) = collect_all collect_reader T (map part_at (drop (i + 1) ps)) in
      ap (λ (qs : List (Pointer ReaderPart)). pointers_onto qs later) e
      ∙ sym (onto-append old (collect_reader T (part_at p)) later)
      ∙ ap (pointers_onto old) parts_left ∙ w

-- ---- a field behind those of its group

pub put_behind_is : (gs : List Fields) (i : ℕ) (g h : Fields) (f : FieldAt) → i < length gs → g ≡ get_or gs i g → group_of h ≡ with_other (group_of g) (asked_at f)
    → map group_of (set gs i h) ≡ put_at i (map group_of gs) (asked_at f)
put_behind_is [] i g h f low is e = absurd (omega arith)
put_behind_is (x ∷ gs) zero g h f low is e = ap (λ (y : Group ReaderPart). y ∷ map group_of gs) (e ∙ ap (λ (y : Fields). with_other (group_of y) (asked_at f)) is)
put_behind_is (x ∷ gs) (suc i) g h f low is e = ap (λ ys. group_of x ∷ ys) (put_behind_is gs i g h f (omega arith) is e)

-- ---- a field of a new response key

pub placed_at : (gs : List (Group ReaderPart)) (k r : Text) (found there : Option ℕ) → k ≡ r → found ≡ place_of gs k → found ≡ there → place_of gs r ≡ there
placed_at gs k r found there e f g = ap (place_of gs) (sym e) ∙ sym f ∙ g

module _ (gs all : List Fields) (f : FieldAt) (others : Vec FieldAt Global) (none : others.items ≡ []) (pushed : all ≡ gs ++ record { first = f; others = others } ∷ []) (unplaced : place_of (map group_of gs) f.response.now ≡ None) where
  one_more : map group_of all ≡ map group_of gs ++ alone (asked_at f) ∷ []
  one_more =
      ap (map group_of) pushed
      ∙ map-append group_of gs (record { first = f; others = others } ∷ [])
      ∙ ap (λ (os : List FieldAt). map group_of gs ++ record { first = asked_at f; others = map asked_at os } ∷ []) none

  pub put_new_is : map group_of all ≡ with_asked (map group_of gs) (asked_at f)
  put_new_is = one_more ∙ sym (put_new (map group_of gs) (asked_at f) unplaced)

  -- its place is known
  pub placed_new : (k n : Text) (count : ℕ) (old new : Option ℕ) → k ≡ f.response.now → count ≡ length gs → old ≡ place_of (map group_of gs) n → new ≡ cond (bytes_eq k n) (Some count) old
      → new ≡ place_of (map group_of all) n
  placed_new k n count old new key counted was is =
      let whole : count ≡ length (map group_of gs) = counted ∙ sym (length-map gs group_of) in
      is
      ∙ (λ i. cond (bytes_eq (key i) n) (Some (whole i)) (was i))
      ∙ place_new (map group_of gs) (asked_at f) n unplaced
      ∙ ap (λ (hs : List (Group ReaderPart)). place_of hs n) (sym one_more)
