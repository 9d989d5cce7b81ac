-- What every image that code holds is: the numbers of its values are within 64 bits, keys, facts and pages stand in their order, and
-- the facts of an entry name the type of each record once.
use Rattle.std.specs.Prelude.{◌≡◌, List, Option, Some, None, ⊤}
use Rattle.std.specs.List.{AllByRecursion}
use Rattle.std.specs.Map.{keys_of}
use Rattle.store_model.specs.gql_plain.Order.{AreInOrder}
use Rattle.store_model.specs.gql_plain.Shown.{tree_of}
use Rattle.image_marks.specs.store_record.Keys.{Text, Arguments}
use Rattle.image_marks.specs.store_record.declared.field.Field.{Field}
use Rattle.image_marks.specs.store_record.declared.field.Field.TheVariants.{Leaf, Link, Links}
use Rattle.image_marks.specs.store_record.declared.record.Record.{Record}
use Rattle.store_model.specs.FactOrder.{AreHandlesInOrder}
use Rattle.store_model.specs.FactRows.{AreFactRows, HaveFieldsInOrder, facts_of}
use Rattle.store_model.specs.Said.{HaveHandleKeys}
use Rattle.store_model.specs.declared.command.Command.{Command}
use Rattle.store_model.specs.declared.event.Part.{Part}
use Rattle.store_model.specs.declared.facts.Fact.{Fact}
use Rattle.store_model.specs.declared.facts.FactRow.{FactRow}
use Rattle.store_model.specs.declared.facts.HandleFact.{HandleFact}
use Rattle.image_marks.specs.Values.{IsValue}
use Rattle.image_text.specs.Lines.{command_tree, pairs}
use Rattle.image_text.specs.declared.image.Image.{Image}
use Rattle.image_text.specs.declared.image.ImageHandle.{ImageHandle}
use Rattle.image_text.specs.declared.image.ImageLayer.{ImageLayer}
use Rattle.image_text.specs.declared.image.ImageRecord.{ImageRecord}
use Rattle.image_text.specs.declared.image.ImageRelease.{ImageRelease}
use Rattle.image_text.specs.declared.image.ImageWatch.{ImageWatch}

abbrev pub IsFieldMade : Field → Type 0
IsFieldMade (Leaf value) = IsValue (tree_of value)
IsFieldMade (Link id) = ⊤
IsFieldMade (Links ids) = ⊤

abbrev pub ArePairsMade : Arguments → Type 0
ArePairsMade ms = IsValue (pairs ms)

abbrev pub AreFieldsMade : List (Text × Field) → Type 0
AreFieldsMade fields = AllByRecursion (λ (f : Text × Field). IsFieldMade f.1) fields

abbrev pub IsSlotMade : Option Record → Type 0
IsSlotMade None = ⊤
IsSlotMade (Some r) = AreInOrder (keys_of r.fields) × AreFieldsMade r.fields

-- The facts of an entry are those of rows: one for each id, in byte order of the ids, with the name of its type, which is a Name and
-- stands for the one fact under `__typename`, and its other fields, in byte order of their keys.
pub record AreFactsMade (facts : List Fact) : Type 0 where
  pub rows : List FactRow
  pub are : facts_of rows ≡ facts
  pub order : AreFactRows rows
  pub fields : HaveFieldsInOrder rows
  pub values : AllByRecursion (λ (f : Fact). IsFieldMade f.value) facts

abbrev pub IsPageMade : HandleFact → Type 0
IsPageMade h = IsValue (tree_of h.after) × IsValue (tree_of h.before)

abbrev pub IsCommandMade : Command → Type 0
IsCommandMade c = IsValue (command_tree c)

pub record IsLayerMade (l : ImageLayer) : Type 0 where
  pub facts : AreFactsMade l.entry.facts.facts
  pub page_order : AreHandlesInOrder l.entry.facts.handles
  pub handle_keys : HaveHandleKeys l.entry.facts.handles
  pub pages : AllByRecursion IsPageMade l.entry.facts.handles
  pub commands : AllByRecursion IsCommandMade l.entry.commands

abbrev pub IsPartMade : Option Part → Type 0
IsPartMade None = ⊤
IsPartMade (Some p) = ArePairsMade p.args

pub record IsMade (v : Image) : Type 0 where
  pub records : AllByRecursion (λ (r : ImageRecord). IsSlotMade r.slot) v.records
  pub layers : AllByRecursion IsLayerMade v.layers
  pub handles : AllByRecursion (λ (h : ImageHandle). ArePairsMade h.vars) v.handles
  pub released : AllByRecursion (λ (r : ImageRelease). ArePairsMade r.vars) v.released
  pub watches : AllByRecursion (λ (w : ImageWatch). IsPartMade w.part) v.watches
