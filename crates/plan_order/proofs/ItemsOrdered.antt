-- The items that steps in order give: their response keys and fragments rise, and what stands below them is in order.
use Rattle.std.proofs.Common.{inl, Bool, true, false, cond, List, [], ◌∷◌, ◌++◌, refl, sym, subst}
use Rattle.std.specs.List.Sorted.{IsStrictlySortedBy}
use Rattle.plan_ir.specs.NormalMeaning.{guard_passes}
use Rattle.plan_ir.specs.Reader as r
use Rattle.plan_ir.specs.Reader.{Reader}
use Rattle.plan_ir.specs.ReaderMeaning.{ReaderPart, collect_reading}
use Rattle.plan_order.proofs.Grouping.{fragments-append, fragments_in, keys-append, keys_in}
use Rattle.plan_order.proofs.Rising.{Within, none, kept, within-append, within-nothing}
use Rattle.plan_order.specs.Ordered.{AreInOrderBelow, IsOrdered}
use Rattle.plan_order.specs.Responses.{fragments, responses}
use Rattle.plan_ir.specs.schema_types.Environments.{Values}
use Rattle.plan_ir.specs.store_model.Items.{Item, asked, pointed}
use Rattle.plan_ir.specs.store_record.Keys.{Text}

module _ (env : Values) (T : Text) where
  abbrev items : Reader → List (Item ReaderPart)
  items steps = collect_reading env T steps

  keys_let : (b : Bool) (child : Reader) → Within (keys_in (items child)) (responses child) → Within (keys_in (cond b (items child) [])) (responses child)
  keys_let true child w = w
  keys_let false child w = within-nothing (responses child)

  pub keys_within : (steps : Reader) → Within (keys_in (items steps)) (responses steps)
  keys_within r.done = none
  keys_within (r.typename n rest) = kept (keys_within rest)
  keys_within (r.leaf n name xs rest) = kept (keys_within rest)
  keys_within (r.object n name xs m ts is o c child rest) = kept (keys_within rest)
  keys_within (r.guarded g child rest) =
      subst (λ ks. Within ks (responses child ++ responses rest)) (sym (keys-append (cond (guard_passes env T g) (items child) []) (items rest)))
      (within-append (keys_let (guard_passes env T g) child (keys_within child)) (keys_within rest))
  keys_within (r.pointer f xs rest) = keys_within rest
  keys_within (r.pointer_inline f xs child rest) = keys_within rest

  fragments_let : (b : Bool) (child : Reader) → Within (fragments_in (items child)) (fragments child) → Within (fragments_in (cond b (items child) [])) (fragments child)
  fragments_let true child w = w
  fragments_let false child w = within-nothing (fragments child)

  pub fragments_within : (steps : Reader) → Within (fragments_in (items steps)) (fragments steps)
  fragments_within r.done = none
  fragments_within (r.typename n rest) = fragments_within rest
  fragments_within (r.leaf n name xs rest) = fragments_within rest
  fragments_within (r.object n name xs m ts is o c child rest) = fragments_within rest
  fragments_within (r.guarded g child rest) =
      subst (λ fs. Within fs (fragments child ++ fragments rest)) (sym (fragments-append (cond (guard_passes env T g) (items child) []) (items rest)))
      (within-append (fragments_let (guard_passes env T g) child (fragments_within child)) (fragments_within rest))
  fragments_within (r.pointer f xs rest) = kept (fragments_within rest)
  fragments_within (r.pointer_inline f xs child rest) = kept (fragments_within rest)

-- no step is in order
pub done_ordered : IsOrdered r.done
unfolding IsStrictlySortedBy
done_ordered = (record { fields = tt; pointers = tt; apart = inl refl }, tt)

-- what stands below each field and each pointer is in order
abbrev pub AreOrderedParts : List (Item ReaderPart) → Type 0
AreOrderedParts [] = Unit {0}
AreOrderedParts (asked a ∷ items) = IsOrdered a.part.steps × AreOrderedParts items
AreOrderedParts (pointed p ∷ items) = IsOrdered p.body.steps × AreOrderedParts items

parts-append : (xs ys : List (Item ReaderPart)) → AreOrderedParts xs → AreOrderedParts ys → AreOrderedParts (xs ++ ys)
parts-append [] ys here later = later
parts-append (asked a ∷ xs) ys here later = (here.0, parts-append xs ys here.1 later)
parts-append (pointed p ∷ xs) ys here later = (here.0, parts-append xs ys here.1 later)

parts_let : (b : Bool) (xs : List (Item ReaderPart)) → AreOrderedParts xs → AreOrderedParts (cond b xs [])
parts_let true xs parts = parts
parts_let false xs parts = tt

pub parts_ordered : (env : Values) (T : Text) (steps : Reader) → AreInOrderBelow steps → AreOrderedParts (collect_reading env T steps)
parts_ordered env T r.done below = tt
parts_ordered env T (r.typename n rest) below = (done_ordered, parts_ordered env T rest below)
parts_ordered env T (r.leaf n name xs rest) below = (done_ordered, parts_ordered env T rest below)
parts_ordered env T (r.object n name xs m ts is o c child rest) below = (below.0, parts_ordered env T rest below.1)
parts_ordered env T (r.guarded g child rest) below =
    parts-append (cond (guard_passes env T g) (collect_reading env T child) []) (collect_reading env T rest)
    (parts_let (guard_passes env T g) (collect_reading env T child) (parts_ordered env T child below.0)) (parts_ordered env T rest below.1)
parts_ordered env T (r.pointer f xs rest) below = (done_ordered, parts_ordered env T rest below)
parts_ordered env T (r.pointer_inline f xs child rest) below = (below.0, parts_ordered env T rest below.1)
