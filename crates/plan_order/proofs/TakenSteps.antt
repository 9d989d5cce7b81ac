-- Steps that are taken apart, one after another.
use Rattle.std.proofs.Common.{◌≡◌, Bool, true, false, cond, List, [], ◌∷◌, ◌++◌, append-nil, append_assoc, Option, None, max, refl, sym, ap, subst, ◌∙◌, arith}
use Rattle.std.specs.List.{AllZip}
use Rattle.plan_ir.specs.gql_ast.Value.{Val}
use Rattle.plan_ir.specs.gql_plain.declared.ids.Conn.{Conn}
use Rattle.plan_ir.specs.NormalMeaning.{ask_step, below_step, guard_passes, object_form, typename_ask}
use Rattle.plan_ir.specs.Reader as r
use Rattle.plan_ir.specs.Reader.{Reader, reader_append}
use Rattle.plan_ir.specs.ReaderMeaning.{ReaderPart, collect_reading, field_item, records_below, scope_in}
use Rattle.plan_ir.specs.ReaderView.{step_of, steps_of}
use Rattle.plan_ir.specs.declared.guard.Guard.{Guard}
use Rattle.plan_ir.specs.declared.reader.ReaderStep.{ReaderStep}
use Rattle.plan_order.proofs.OrderedCopies.{alike-refl}
use Rattle.plan_order.proofs.SingleSteps.{below_split, deep_step, items_step}
use Rattle.plan_order.specs.Ordered.{AreInOrderBelow}
use Rattle.plan_order.specs.Singles.{AreTaken, IsOrderedCopy, IsSameItem, IsSamePart, guard_each}
use Rattle.plan_ir.specs.schema_tables.Types.{Text}
use Rattle.plan_ir.specs.schema_types.Environments.{Values}
use Rattle.plan_ir.specs.store_model.Items.{Item, pointed, leaf}
use Rattle.plan_ir.proofs.store_model_laws.SameItems.{zip_append, zip_either}

part-refl : (p : ReaderPart) → IsSamePart p p
part-refl p = record { environment = refl; reads = alike-refl p.steps }

-- ---- one behind another

pub items-append : (env : Values) (T : Text) (a b : Reader) → collect_reading env T (reader_append a b) ≡ collect_reading env T a ++ collect_reading env T b
items-append env T r.done b = refl
items-append env T (r.typename n rest) b = ap (λ (is : List (Item ReaderPart)). field_item (typename_ask n) env r.done ∷ is) (items-append env T rest b)
items-append env T (r.leaf n name xs rest) b = ap (λ (is : List (Item ReaderPart)). field_item (ask_step env n name xs None leaf) env r.done ∷ is) (items-append env T rest b)
items-append env T (r.object n name xs m ts ids o c child rest) b =
    ap (λ (is : List (Item ReaderPart)). field_item (ask_step env n name xs c (object_form m (below_step ts ids o))) env child ∷ is) (items-append env T rest b)
items-append env T (r.guarded g child rest) b =
    ap (λ (is : List (Item ReaderPart)). cond (guard_passes env T g) (collect_reading env T child) [] ++ is) (items-append env T rest b)
    ∙ sym (append_assoc (cond (guard_passes env T g) (collect_reading env T child) []) (collect_reading env T rest) (collect_reading env T b))
items-append env T (r.pointer f xs rest) b =
    ap (λ (is : List (Item ReaderPart)). pointed (record { fragment = f; scope = scope_in env xs; inline = false; body = record { environment = env; steps = r.done } }) ∷ is) (items-append env T rest b)
items-append env T (r.pointer_inline f xs child rest) b =
    ap (λ (is : List (Item ReaderPart)). pointed (record { fragment = f; scope = scope_in env xs; inline = true; body = record { environment = env; steps = child } }) ∷ is) (items-append env T rest b)

deep-append : (a b : Reader) → records_below (reader_append a b) ≡ max (records_below a) (records_below b)
deep-append r.done b = omega arith
deep-append (r.typename n rest) b = deep-append rest b
deep-append (r.leaf n name xs rest) b = deep-append rest b
deep-append (r.object n name xs m ts is o c child rest) b = omega (arith, deep-append rest b)
deep-append (r.guarded g child rest) b = omega (arith, deep-append rest b)
deep-append (r.pointer f xs rest) b = deep-append rest b
deep-append (r.pointer_inline f xs child rest) b = omega (arith, deep-append rest b)

below-append : (a b : Reader) → AreInOrderBelow a → AreInOrderBelow b → AreInOrderBelow (reader_append a b)
below-append r.done b here later = later
below-append (r.typename n rest) b here later = below-append rest b here later
below-append (r.leaf n name xs rest) b here later = below-append rest b here later
below-append (r.object n name xs m ts is o c child rest) b here later = (here.0, below-append rest b here.1 later)
below-append (r.guarded g child rest) b here later = (here.0, below-append rest b here.1 later)
below-append (r.pointer f xs rest) b here later = below-append rest b here later
below-append (r.pointer_inline f xs child rest) b here later = (here.0, below-append rest b here.1 later)

pub taken-nothing : AreTaken r.done r.done
taken-nothing = record { deep = refl; below = tt; items = λ env T. tt }

pub taken-append : (a b c d : Reader) → AreTaken a b → AreTaken c d → AreTaken (reader_append a c) (reader_append b d)
taken-append a b c d first second = record {
  deep = deep-append b d ∙ (λ i. max (first.deep i) (second.deep i)) ∙ sym (deep-append a c);
  below = below-append b d first.below second.below;
  items = λ env T.
      subst (λ is. AllZip IsSameItem is (collect_reading env T (reader_append b d))) (sym (items-append env T a c))
      (subst (AllZip IsSameItem (collect_reading env T a ++ collect_reading env T c)) (sym (items-append env T b d))
      (zip_append IsSameItem (collect_reading env T a) (collect_reading env T b) (collect_reading env T c) (collect_reading env T d) (first.items env T) (second.items env T)));
}

-- ---- one step

pub taken-typename : (n : Text) → AreTaken (r.typename n r.done) (r.typename n r.done)
taken-typename n = record { deep = refl; below = tt; items = λ env T. (record { ask = refl; part = part-refl _ }, tt) }

pub taken-leaf : (n name : Text) (xs : List (Text × Val)) → AreTaken (r.leaf n name xs r.done) (r.leaf n name xs r.done)
taken-leaf n name xs = record { deep = refl; below = tt; items = λ env T. (record { ask = refl; part = part-refl _ }, tt) }

pub taken-pointer : (f : Text) (xs : List (Text × Val)) → AreTaken (r.pointer f xs r.done) (r.pointer f xs r.done)
taken-pointer f xs = record { deep = refl; below = tt; items = λ env T. (record { fragment = refl; scope = refl; inline = refl; body = part-refl _ }, tt) }

pub taken-object : (n name : Text) (xs : List (Text × Val)) (m : Bool) (ts is : List Text) (o : Bool) (c : Option Conn) (child copy : Reader) → IsOrderedCopy child copy
    → AreTaken (r.object n name xs m ts is o c child r.done) (r.object n name xs m ts is o c copy r.done)
taken-object n name xs m ts is o c child copy made = record {
  deep = omega (arith, made.alike.deep);
  below = (made.order, tt);
  items = λ env T. (record { ask = refl; part = record { environment = refl; reads = made.alike } }, tt);
}

pub taken-inline : (f : Text) (xs : List (Text × Val)) (body copy : Reader) → IsOrderedCopy body copy → AreTaken (r.pointer_inline f xs body r.done) (r.pointer_inline f xs copy r.done)
taken-inline f xs body copy made = record {
  deep = omega (arith, made.alike.deep);
  below = (made.order, tt);
  items = λ env T. (record { fragment = refl; scope = refl; inline = refl; body = record { environment = refl; reads = made.alike } }, tt);
}

-- ---- steps behind a guard

guard_items : (env : Values) (T : Text) (g : Guard) (xs : List ReaderStep) → collect_reading env T (guard_each g xs) ≡ cond (guard_passes env T g) (collect_reading env T (steps_of xs)) []
guard_items env T g [] = on (guard_passes env T g)
  where
    on : (b : Bool) → ◌≡◌ {A = List (Item ReaderPart)} [] (cond b [] [])
    on true = refl
    on false = refl
guard_items env T g (x ∷ xs) =
    ap (λ (is : List (Item ReaderPart)). cond (guard_passes env T g) (collect_reading env T (step_of x)) [] ++ is) (guard_items env T g xs)
    ∙ on (guard_passes env T g)
    ∙ ap (λ (is : List (Item ReaderPart)). cond (guard_passes env T g) is []) (sym (items_step env T x (steps_of xs)))
  where
    on : (b : Bool) → cond b (collect_reading env T (step_of x)) [] ++ cond b (collect_reading env T (steps_of xs)) [] ≡ cond b (collect_reading env T (step_of x) ++ collect_reading env T (steps_of xs)) []
    on true = refl
    on false = refl

guard_deep : (g : Guard) (xs : List ReaderStep) → records_below (guard_each g xs) ≡ records_below (steps_of xs)
guard_deep g [] = refl
guard_deep g (x ∷ xs) = ap (max (records_below (step_of x))) (guard_deep g xs) ∙ sym (deep_step x (steps_of xs))

guard_below : (g : Guard) (xs : List ReaderStep) → AreInOrderBelow (steps_of xs) → AreInOrderBelow (guard_each g xs)
guard_below g [] all = tt
guard_below g (x ∷ xs) all = let parts = below_split x (steps_of xs) all in (parts.0, guard_below g xs parts.1)

pub taken-guarded : (g : Guard) (child : Reader) (xs : List ReaderStep) → AreTaken child (steps_of xs) → AreTaken (r.guarded g child r.done) (guard_each g xs)
taken-guarded g child xs is = record {
  deep = omega (arith, guard_deep g xs, is.deep);
  below = guard_below g xs is.below;
  items = λ env T.
      let here = collect_reading env T child in
      let there = collect_reading env T (steps_of xs) in
      subst (λ items. AllZip IsSameItem items (collect_reading env T (guard_each g xs))) (sym (append-nil (cond (guard_passes env T g) here [])))
      (subst (AllZip IsSameItem (cond (guard_passes env T g) here [])) (sym (guard_items env T g xs))
      (zip_either IsSameItem (guard_passes env T g) here [] there [] (is.items env T) tt));
}
