-- Plans are formed: the types below their steps are Names, and none of their fields is `__typename`.
use Rattle.std.proofs.Common.{◌≡◌, Bool, true, false, cond, not, ◌&&◌, List, bytes_eq, refl, ap, ◌∙◌}
use Rattle.std.proofs.lemmas.Bool.{and_from}
use Rattle.std.specs.Prelude.{codes}
use Rattle.plan_ir.specs.Nodes.{Nodes}
use Rattle.plan_ir.specs.Normal.{Normal, done, typename, leaf, object, guarded, normal_append}
use Rattle.plan_ir.specs.NormalMeaning.{are_names, is_field_name, is_formed}
use Rattle.plan_ir.specs.schema_tables.Types.{Text, Defs, base_of, is_composite, possible}
use Rattle.plan_build.proofs.EachStep.{EachStep, steps_hold}
use Rattle.plan_build.specs.Classes.{Target, target_on}
use Rattle.plan_build.specs.Plans.{HaveNames}
use Rattle.plan_build.specs.Steps.{FieldNode, leaf_step, object_step, steps_of, target_step, types_at}

then_formed : (a b : Normal) → is_formed a ≡ true → is_formed b ≡ true → is_formed (normal_append a b) ≡ true
then_formed a b e f = joined a b ∙ and_from (is_formed a) (is_formed b) e f where
  group : (x y z : Bool) → (x && (y && z)) ≡ ((x && y) && z)
  group true y z = refl
  group false y z = refl

  group_four : (w x y z v : Bool) → (w && (x && (y && (z && v)))) ≡ ((w && (x && (y && z))) && v)
  group_four true true true z v = refl
  group_four true true false z v = refl
  group_four true false y z v = refl
  group_four false x y z v = refl

  joined : (a b : Normal) → is_formed (normal_append a b) ≡ (is_formed a && is_formed b)
  joined done b = refl
  joined (typename r rest) b = joined rest b
  joined (leaf r n xs rest) b = ap (λ (c : Bool). is_field_name n && c) (joined rest b) ∙ group (is_field_name n) (is_formed rest) (is_formed b)
  joined (object r n xs m ts is o c child rest) b =
      ap (λ (d : Bool). is_field_name n && (are_names ts && (is_formed child && d))) (joined rest b)
      ∙ group_four (is_field_name n) (are_names ts) (is_formed child) (is_formed rest) (is_formed b)
  joined (guarded g child rest) b = ap (λ (c : Bool). is_formed child && c) (joined rest b) ∙ group (is_formed child) (is_formed rest) (is_formed b)

module _ (defs : Defs) (names : HaveNames defs) where
  target_formed : (f : FieldNode) → bytes_eq f.name (codes "__typename") ≡ false → (child : Normal) → is_formed child ≡ true → (t : Target) → is_formed (target_step defs f child t) ≡ true
  target_formed f own child formed t = on (is_composite defs t.base) where
    field : is_field_name f.name ≡ true
    field = ap not own

    on : (b : Bool) → is_formed (cond b (object_step defs f t child) (leaf_step f)) ≡ true
    on true =
        and_from (is_field_name f.name) (are_names (possible defs t.base) && (is_formed child && true)) field
        (and_from (are_names (possible defs t.base)) (is_formed child && true) (names t.base) (and_from (is_formed child) true formed refl))
    on false = and_from (is_field_name f.name) true field refl

  each_formed : EachStep defs (λ ts s. Unit {0}) is_formed
  each_formed = record {
    nothing = refl;
    joined = then_formed;
    conditional = λ cs s h. and_from (is_formed s) true h refl;
    tested = λ ts s around us within inside h. and_from (is_formed inside) true h refl;
    tested_on = λ o cs s h. and_from (is_formed s) true h refl;
    named = λ r. refl;
    step = λ ts r n xs ds c of s p rest around T here off h.
        target_formed (record { response = r; name = n; arguments = xs; connection = c }) off (steps_of defs (types_at defs (base_of of)) s) h (target_on defs T n);
    below = λ ts r n xs ds c of s p rest around. tt;
    next = λ ts r n xs ds c of s p rest around. tt;
    same = λ ts ds s p rest around. tt;
    narrow = λ ts o ds s p rest around w. tt;
    wide = λ ts o ds s p rest around w. tt;
    after = λ ts o ds s p rest around. tt;
  }

pub steps_formed : (defs : Defs) → HaveNames defs → (ts : List Text) (s : Nodes) → is_formed (steps_of defs ts s) ≡ true
steps_formed defs names ts s = steps_hold defs (λ us t. Unit {0}) is_formed (each_formed defs names) ts s tt
