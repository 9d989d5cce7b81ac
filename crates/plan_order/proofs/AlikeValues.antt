-- Where what stands below reads alike, so do fields and pointers.
use Rattle.std.proofs.Common.{◌≡◌, Bool, true, false, List, [], ◌∷◌, Option, Some, None, refl, sym, ap}
use Rattle.std.proofs.lemmas.List.Sorted.{IsPermutation-refl}
use Rattle.plan_ir.specs.gql_plain.Tree.{Tree, list, trees_of}
use Rattle.plan_order.proofs.AlikeTraces.{AreMet, met-join, met-refl, met-sym}
use Rattle.plan_ir.specs.store_model.Items.{Form, typename, leaf, one, many, Pointer}
use Rattle.plan_ir.specs.store_model.Walks.{Found, Next, element_at, elements_at, issue, many_at, one_at, or_null, pointer_at, shown_object, value_at}
use Rattle.plan_ir.specs.store_record.Keys.{Text}
use Rattle.plan_ir.specs.store_record.declared.field.Field.{Field}
use Rattle.plan_ir.specs.store_record.declared.field.Field.TheVariants.{Leaf, Link, Links}

-- equal data, and the same met
pub record AreFound (a b : Found) : Type 0 where
  pub shown : a.0 ≡ b.0
  pub met : AreMet a.1 b.1

pub found-refl : (a : Found) → AreFound a a
found-refl a = record { shown = refl; met = met-refl a.1 }

pub found-back : (a b : Found) → AreFound a b → AreFound b a
found-back a b e = record { shown = sym e.shown; met = met-sym a.1 b.1 e.met }

module _ {F : Type 0} (next other : Next F) where
  -- two parts by which they read alike
  abbrev pub AreAlikeBelow : F → F → Type 0
  AreAlikeBelow f g = (types : List Text) (id : Text) → AreFound (next types (f ∷ []) id) (other types (g ∷ []) id)

  -- a part by which both read alike
  abbrev pub IsAlikePart : F → Type 0
  IsAlikePart f = AreAlikeBelow f f

  module _ (f g : F) (part : AreAlikeBelow f g) where
    one_alike : (types : List Text) (field : Option Field) → AreFound (one_at next types (f ∷ []) field) (one_at other types (g ∷ []) field)
    one_alike types None = found-refl _
    one_alike types (Some (Leaf value)) = found-refl _
    one_alike types (Some (Link id)) = part types id
    one_alike types (Some (Links ids)) = found-refl _

    element_shown : (types : List Text) (e : Option Text) → (element_at next types (f ∷ []) e).0 ≡ (element_at other types (g ∷ []) e).0
    element_shown types None = refl
    element_shown types (Some id) = ap or_null (part types id).shown

    element_met : (types : List Text) (e : Option Text) → AreMet (element_at next types (f ∷ []) e).1 (element_at other types (g ∷ []) e).1
    element_met types None = met-refl _
    element_met types (Some id) = (part types id).met

    elements_shown : (types : List Text) (es : List (Option Text)) → (elements_at next types (f ∷ []) es).0 ≡ (elements_at other types (g ∷ []) es).0
    elements_shown types [] = refl
    elements_shown types (e ∷ es) = λ i. element_shown types e i ∷ elements_shown types es i

    elements_met : (types : List Text) (es : List (Option Text)) → AreMet (elements_at next types (f ∷ []) es).1 (elements_at other types (g ∷ []) es).1
    elements_met types [] = met-refl _
    elements_met types (e ∷ es) = met-join _ _ _ _ (element_met types e) (elements_met types es)

    many_alike : (types : List Text) (field : Option Field) → AreFound (many_at next types (f ∷ []) field) (many_at other types (g ∷ []) field)
    many_alike types None = found-refl _
    many_alike types (Some (Leaf value)) = found-refl _
    many_alike types (Some (Link id)) = found-refl _
    many_alike types (Some (Links ids)) = record {
      shown = ap (λ (ts : List Tree). Some (list (trees_of ts))) (elements_shown types ids);
      met = elements_met types ids;
    }

    pub value_alike : (T : Text) (form : Form) (field : Option Field) → AreFound (value_at next T (f ∷ []) form field) (value_at other T (g ∷ []) form field)
    value_alike T typename field = found-refl _
    value_alike T leaf field = found-refl _
    value_alike T (one b) field = one_alike b.types field
    value_alike T (many b) field = many_alike b.types field

  -- two pointers of equal values
  pub pointed_shown : (T id : Text) (p q : Pointer F) → p.scope ≡ q.scope → AreAlikeBelow p.body q.body → (inline : Bool) → (pointer_at next T id p inline).0 ≡ (pointer_at other T id q inline).0
  pointed_shown T id p q scope part false = λ i. shown_object (scope i)
  pointed_shown T id p q scope part true = ap or_null (part (T ∷ []) id).shown

  issued_met : (id : Text) (p q : Pointer F) → AreMet (issue id p) (issue id q)
  issued_met id p q = record { missing = refl; seen = IsPermutation-refl [] }

  pub pointed_met : (T id : Text) (p q : Pointer F) → AreAlikeBelow p.body q.body → (inline : Bool) → AreMet (pointer_at next T id p inline).1 (pointer_at other T id q inline).1
  pointed_met T id p q part false = issued_met id p q
  pointed_met T id p q part true = met-join (issue id p) (issue id q) _ _ (issued_met id p q) (part (T ∷ []) id).met
