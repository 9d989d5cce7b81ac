-- Parts with the types that are known of them, and what they give on an object type, seen as nodes and seen as steps.
use Rattle.std.proofs.Common.{◌≡◌, Bool, true, false, cond, List, [], ◌∷◌, ◌++◌, map, refl, sym, ◌∙◌}
use Rattle.std.proofs.lemmas.List.{map-append}
use Rattle.plan_ir.specs.gql_ast.Ty.{Ty}
use Rattle.plan_ir.specs.Nodes as nodes
use Rattle.plan_ir.specs.Nodes.{Nodes}
use Rattle.plan_ir.specs.Normal.{done}
use Rattle.plan_ir.specs.NormalMeaning.{Plan}
use Rattle.relay_model.specs.plan_collect.Collecting.{applies, is_left_out}
use Rattle.plan_ir.specs.schema_tables.Types.{Text, Defs, base_of}
use Rattle.plan_ir.specs.schema_types.Environments.{Values}
use Rattle.plan_ir.specs.store_model.Items.{Asked, Form, Item, asked, typename, leaf, one, many, collect_all}
use Rattle.plan_build.proofs.Grouped.{seen}
use Rattle.plan_build.specs.NodesMeaning.{Set, ask_of_node, collect_nodes, collect_nodes_in}
use Rattle.plan_build.specs.Steps.{steps_of, types_at}

-- a set, the types that it is planned for, the static type around it, and the type that is counted on
pub record Part : Type 0 where
  pub set : Set
  pub types : List Text
  pub around : Text
  pub type : Text

abbrev pub child : Defs → Values → Ty → Nodes → Part
child defs env of s = record { set = record { environment = env; nodes = s }; types = types_at defs (base_of of); around = base_of of; type = base_of of }

abbrev pub gather_in : Defs → (object : Text) → Values → Nodes → List (Asked Part)
gather_in defs T env nodes.end = []
gather_in defs T env (nodes.field r n xs ds c of s p rest) =
    cond (is_left_out env ds) [] (record { ask = ask_of_node defs T env r n xs c; part = child defs env of s } ∷ []) ++ gather_in defs T env rest
gather_in defs T env (nodes.inline o ds s p rest) =
    cond (is_left_out env ds) [] (cond (applies defs o T) (gather_in defs T env s) []) ++ gather_in defs T env rest

abbrev pub gather : Defs → (object : Text) → Part → List (Asked Part)
gather defs T p = gather_in defs T p.set.environment p.set.nodes

abbrev pub gather_all : Defs → (object : Text) → List Part → List (Asked Part)
gather_all defs T [] = []
gather_all defs T (p ∷ ps) = gather defs T p ++ gather_all defs T ps

-- ---- seen as nodes

abbrev pub set_of : Part → Set
set_of p = p.set

abbrev pub as_set : Asked Part → Set
as_set a = a.part.set

abbrev pub node_item : Asked Part → Item Set
node_item a = asked (seen as_set a)

-- ---- seen as steps

abbrev pub planned : Defs → Part → Plan
planned defs p = record { environment = p.set.environment; steps = steps_of defs p.types p.set.nodes }

-- the plan below a field of this form
abbrev pub plan_below : Defs → Form → Part → Plan
plan_below defs typename p = record { environment = p.set.environment; steps = done }
plan_below defs leaf p = record { environment = p.set.environment; steps = done }
plan_below defs (one b) p = planned defs p
plan_below defs (many b) p = planned defs p

abbrev pub as_plan : Defs → Asked Part → Plan
as_plan defs a = plan_below defs a.ask.form a.part

abbrev pub step_item : Defs → Asked Part → Item Plan
step_item defs a = asked (seen (as_plan defs) a)

-- ---- what nodes give

module _ {X Y : Type 0} (f : X → Y) where
  pub mapped : (left_out : Bool) (xs more : List X) (ys others : List Y) → ys ≡ map f xs → others ≡ map f more → cond left_out [] ys ++ others ≡ map f (cond left_out [] xs ++ more)
  mapped true xs more ys others here rest = rest
  mapped false xs more ys others here rest = (λ i. here i ++ rest i) ∙ sym (map-append f xs more)

  pub mapped_if : (b : Bool) (xs : List X) (ys : List Y) → ys ≡ map f xs → cond b ys [] ≡ map f (cond b xs [])
  mapped_if true xs ys here = here
  mapped_if false xs ys here = refl

node_items_in : (defs : Defs) (T : Text) (env : Values) (s : Nodes) → collect_nodes_in defs T env s ≡ map node_item (gather_in defs T env s)
node_items_in defs T env nodes.end = refl
node_items_in defs T env (nodes.field r n xs ds c of s p rest) =
    mapped node_item (is_left_out env ds) (record { ask = ask_of_node defs T env r n xs c; part = child defs env of s } ∷ []) (gather_in defs T env rest) _ _ refl (node_items_in defs T env rest)
node_items_in defs T env (nodes.inline o ds s p rest) =
    mapped node_item (is_left_out env ds) (cond (applies defs o T) (gather_in defs T env s) []) (gather_in defs T env rest) _ _
    (mapped_if node_item (applies defs o T) (gather_in defs T env s) (collect_nodes_in defs T env s) (node_items_in defs T env s)) (node_items_in defs T env rest)

pub node_items : (defs : Defs) (T : Text) (ps : List Part) → collect_all (collect_nodes defs) T (map set_of ps) ≡ map node_item (gather_all defs T ps)
node_items defs T [] = refl
node_items defs T (p ∷ ps) = (λ i. node_items_in defs T p.set.environment p.set.nodes i ++ node_items defs T ps i) ∙ sym (map-append node_item (gather defs T p) (gather_all defs T ps))
