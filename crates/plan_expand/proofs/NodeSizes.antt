-- How large nodes are that stand behind one another, and those that are added.
use Rattle.std.proofs.Common.{◌≡◌, ℕ, zero, suc, ◌+◌, ◌≤◌, Bool, true, false, not, ◌&&◌, cond, List, [], ◌∷◌, ◌++◌, length, refl, ap, sym, subst, ◌∙◌, arith}
use Rattle.std.specs.Prelude.{◌↔◌, IsTrue, codes, max}
use Rattle.std.specs.List.{filter}
use Rattle.plan_ir.specs.gql_ast.Sels as sels
use Rattle.plan_ir.specs.gql_ast.Sels.{Sels}
use Rattle.plan_ir.specs.gql_ast.Ty.{Ty}
use Rattle.plan_ir.specs.gql_ast.Value.{Val}
use Rattle.plan_ir.specs.gql_ast.declared.place.FilePlace.{FilePlace}
use Rattle.plan_ir.specs.Additions.{additions, bare_field, connection_additions, edges_field, has_bare, id_additions, id_field, ids_on, is_abstract, leaf_on, node_field, or_typename, page_info_field, record_additions, type_on, typename_additions, typename_field}
use Rattle.plan_ir.specs.Nodes.{Nodes, end, field, inline, nodes_append, set_depth}
use Rattle.plan_ir.specs.Sizes.{all_count, all_depth, nodes_count, nodes_value_depth}
use Rattle.plan_ir.specs.schema_tables.Types.{Text, Defs, base_of, has_id, possible}
use Rattle.plan_ir.specs.schema_types.Sites.{is_set}
use Rattle.plan_expand.proofs.AdditionSteps.{ids_on_is}
use Rattle.plan_expand.specs.Adding.{identified_types, ids_of_each}
use Rattle.plan_expand.specs.AdditionSizes.{additions_size, connection_size, edges_size, field_size, size_or_typename, id_size, ids_size, node_size, page_info_size, record_size, typename_size}
use Rattle.plan_expand.specs.Sizes.{beside, nothing, within}
use Rattle.plan_expand.specs.declared.size.Size.{Size}

-- ---- nodes behind one another

pub count_append : (a b : Nodes) → nodes_count (nodes_append a b) ≡ nodes_count a + nodes_count b
count_append end b = omega arith
count_append (field r n xs ds c u s p t) b = omega (arith, count_append t b)
count_append (inline o ds s p t) b = omega (arith, count_append t b)

pub depth_append : (a b : Nodes) → set_depth (nodes_append a b) ≡ max (set_depth a) (set_depth b)
depth_append end b = omega arith
depth_append (field r n xs ds c u s p t) b = omega (arith, depth_append t b)
depth_append (inline o ds s p t) b = omega (arith, depth_append t b)

pub value_depth_append : (a b : Nodes) → nodes_value_depth (nodes_append a b) ≡ max (nodes_value_depth a) (nodes_value_depth b)
value_depth_append end b = omega arith
value_depth_append (field r n xs ds c u s p t) b = omega (arith, value_depth_append t b)
value_depth_append (inline o ds s p t) b = omega (arith, value_depth_append t b)

pub all_count_append : (a b : List Val) → all_count (a ++ b) ≡ all_count a + all_count b
all_count_append [] b = omega arith
all_count_append (x ∷ a) b = omega (arith, all_count_append a b)

pub all_depth_append : (a b : List Val) → all_depth (a ++ b) ≡ max (all_depth a) (all_depth b)
all_depth_append [] b = omega arith
all_depth_append (x ∷ a) b = omega (arith, all_depth_append a b)

-- ---- nodes of a size, without lists and objects

pub record Sized (ns : Nodes) (a : Size) : Type 0 where
  pub count : nodes_count ns ≡ a.count
  pub depth : set_depth ns ≡ a.depth
  pub flat : nodes_value_depth ns ≡ 0

sized_append : (a b : Nodes) (x y : Size) → Sized a x → Sized b y → Sized (nodes_append a b) (beside x y)
sized_append a b x y s t = record {
  count = omega (arith, count_append a b, s.count, t.count);
  depth = omega (arith, depth_append a b, s.depth, t.depth);
  flat = omega (arith, value_depth_append a b, s.flat, t.flat);
}

sized_none : Sized end nothing
sized_none = record { count = refl; depth = refl; flat = refl }

sized_field : (n : Text) (t : Ty) (s : Nodes) (p : FilePlace) (a : Size) → Sized s a → Sized (bare_field n t s p) (within a)
sized_field n t s p a h = record { count = omega (arith, h.count); depth = omega (arith, h.depth); flat = omega (arith, h.flat) }

sized_leaf : (n : Text) (t : Ty) (p : FilePlace) → Sized (bare_field n t end p) field_size
sized_leaf n t p = record { count = refl; depth = refl; flat = refl }

sized_if : (b : Bool) (ns ms : Nodes) (x y : Size) → Sized ns x → Sized ms y → Sized (cond b ns ms) (cond b x y)
sized_if true ns ms x y s t = s
sized_if false ns ms x y s t = t

ids_count : (p : FilePlace) (ts : List Text) → nodes_count (ids_of_each p ts) ≡ length ts + length ts
ids_count p [] = refl
ids_count p (t ∷ ts) = omega (arith, ids_count p ts)

ids_deep : (p : FilePlace) (ts : List Text) → set_depth (ids_of_each p ts) ≤ 2
ids_deep p [] = omega arith
ids_deep p (t ∷ ts) = omega (arith, ids_deep p ts)

ids_level : (n : ℕ) → 1 ≤ n → (ids_size n).depth ≡ 2
ids_level zero h = absurd (omega (arith, h))
ids_level (suc n) h = refl

ids_depth : (p : FilePlace) (ts : List Text) → set_depth (ids_of_each p ts) ≡ (ids_size (length ts)).depth
ids_depth p [] = refl
ids_depth p (t ∷ ts) =
    let d : (ids_size (length (t ∷ ts))).depth ≡ 2 = ids_level (length (t ∷ ts)) (omega arith) in
    let s : set_depth (ids_of_each p (t ∷ ts)) ≡ 2 = omega (arith, ids_deep p ts) in
    s ∙ sym d

ids_flat : (p : FilePlace) (ts : List Text) → nodes_value_depth (ids_of_each p ts) ≡ 0
ids_flat p [] = refl
ids_flat p (t ∷ ts) = omega (arith, ids_flat p ts)

ids_numbers : (n : ℕ) → (ids_size n).count ≡ n + n
ids_numbers zero = refl
ids_numbers (suc n) = refl

sized_ids : (defs : Defs) (p : FilePlace) (t : Text) → Sized (ids_on defs p (possible defs t)) (ids_size (length (identified_types defs t)))
sized_ids defs p t =
    let ts : List Text = filter (has_id defs) (possible defs t) in
    let e : ids_on defs p (possible defs t) ≡ ids_of_each p ts = ids_on_is defs p (possible defs t) in
    record {
      count = ap nodes_count e ∙ ids_count p ts ∙ sym (ids_numbers (length ts));
      depth = ap set_depth e ∙ ids_depth p ts;
      flat = ap nodes_value_depth e ∙ ids_flat p ts;
    }

sized_id : (defs : Defs) (t : Text) (s : Sels) (p : FilePlace) → Sized (id_additions defs t s p) (id_size defs t s)
sized_id defs t s p =
    sized_if (has_id defs t) _ _ _ _ (sized_if (has_bare (codes "id") s) end (id_field p) nothing field_size sized_none (sized_leaf _ _ p))
    (sized_if (is_abstract defs t) (ids_on defs p (possible defs t)) end (ids_size (length (identified_types defs t))) nothing (sized_ids defs p t) sized_none)

sized_typename : (defs : Defs) (t : Text) (s : Sels) (p : FilePlace) → Sized (typename_additions defs t s p) (typename_size defs t s)
sized_typename defs t s p = sized_if (is_abstract defs t && not (has_bare (codes "__typename") s)) (typename_field p) end field_size nothing (sized_leaf _ _ p) sized_none

sized_record : (defs : Defs) (t : Text) (s : Sels) (p : FilePlace) → Sized (record_additions defs t s p) (record_size defs t s)
sized_record defs t s p = sized_append (id_additions defs t s p) (typename_additions defs t s p) (id_size defs t s) (typename_size defs t s) (sized_id defs t s p) (sized_typename defs t s p)

-- a set that is empty gets `__typename`
pub filled_some : (n : ℕ) (a : Size) → 1 ≤ n → size_or_typename n a ≡ a
filled_some zero a h = absurd (omega (arith, h))
filled_some (suc n) a h = refl

pub filled_none : (n : ℕ) (a : Size) → n ≡ 0 → size_or_typename n a ≡ field_size
filled_none zero a e = refl
filled_none (suc n) a e = absurd (omega (arith, e))

sized_filled : (ns : Nodes) (p : FilePlace) (a : Size) → Sized ns a → Sized (or_typename ns p) (size_or_typename a.count a)
sized_filled end p a h = subst (Sized (typename_field p)) (sym (filled_none a.count a (sym h.count))) (sized_leaf _ _ p)
sized_filled (field r n xs ds c u s q t) p a h = subst (Sized (field r n xs ds c u s q t)) (sym (filled_some a.count a (omega (arith, h.count)))) h
sized_filled (inline o ds s q t) p a h = subst (Sized (inline o ds s q t)) (sym (filled_some a.count a (omega (arith, h.count)))) h

sized_node : (defs : Defs) (edge : Text) (p : FilePlace) → Sized (node_field defs edge p) (node_size defs edge)
sized_node defs edge p =
    let base : Text = base_of (type_on defs edge (codes "node")) in
    sized_field _ _ _ p _ (sized_filled (record_additions defs base sels.end p) p (record_size defs base sels.end) (sized_record defs base sels.end p))

sized_edges : (defs : Defs) (t : Text) (p : FilePlace) → Sized (edges_field defs t p) (edges_size defs t)
sized_edges defs t p =
    let edge : Text = base_of (type_on defs t (codes "edges")) in
    sized_field _ _ _ p _
    (sized_append (leaf_on defs edge p (codes "cursor")) (nodes_append (node_field defs edge p) (record_additions defs edge sels.end p)) field_size (beside (node_size defs edge) (record_size defs edge sels.end))
    (sized_leaf _ _ p)
    (sized_append (node_field defs edge p) (record_additions defs edge sels.end p) (node_size defs edge) (record_size defs edge sels.end) (sized_node defs edge p) (sized_record defs edge sels.end p)))

four_fields : (a : Size) → beside field_size (beside field_size (beside field_size (beside field_size a))) ≡ beside (record { count = 4; depth = 1 }) a
four_fields a =
    let n : 1 + (1 + (1 + (1 + a.count))) ≡ 4 + a.count = omega arith in
    let d : max 1 (max 1 (max 1 (max 1 a.depth))) ≡ max 1 a.depth = omega arith in
    λ i. record { count = n i; depth = d i }

sized_page_info : (defs : Defs) (t : Text) (p : FilePlace) → Sized (page_info_field defs t p) (page_info_size defs t)
sized_page_info defs t p =
    let info : Text = base_of (type_on defs t (codes "pageInfo")) in
    let a : Size = record_size defs info sels.end in
    let rest : Nodes = record_additions defs info sels.end p in
    let four : Nodes = nodes_append (leaf_on defs info p (codes "startCursor")) rest in
    let three : Nodes = nodes_append (leaf_on defs info p (codes "hasPreviousPage")) four in
    let two : Nodes = nodes_append (leaf_on defs info p (codes "hasNextPage")) three in
    let at4 : Sized four (beside field_size a) = sized_append (leaf_on defs info p (codes "startCursor")) rest field_size a (sized_leaf _ _ p) (sized_record defs info sels.end p) in
    let at3 : Sized three (beside field_size (beside field_size a)) = sized_append (leaf_on defs info p (codes "hasPreviousPage")) four field_size (beside field_size a) (sized_leaf _ _ p) at4 in
    let at2 : Sized two (beside field_size (beside field_size (beside field_size a))) = sized_append (leaf_on defs info p (codes "hasNextPage")) three field_size (beside field_size (beside field_size a)) (sized_leaf _ _ p) at3 in
    let at1 : Sized (nodes_append (leaf_on defs info p (codes "endCursor")) two) (beside field_size (beside field_size (beside field_size (beside field_size a)))) =
    sized_append (leaf_on defs info p (codes "endCursor")) two field_size (beside field_size (beside field_size (beside field_size a))) (sized_leaf _ _ p) at2 in
    sized_field _ _ _ p _ (subst (Sized (nodes_append (leaf_on defs info p (codes "endCursor")) two)) (four_fields a) at1)

sized_connection : (defs : Defs) (t : Text) (p : FilePlace) → Sized (connection_additions defs t p) (connection_size defs t)
sized_connection defs t p = sized_append (edges_field defs t p) (page_info_field defs t p) (edges_size defs t) (page_info_size defs t) (sized_edges defs t p) (sized_page_info defs t p)

sized_both : (defs : Defs) (c : Bool) (t : Text) (s : Sels) (p : FilePlace)
    → Sized (nodes_append (cond c (connection_additions defs t p) end) (record_additions defs t s p)) (beside (cond c (connection_size defs t) nothing) (record_size defs t s))
sized_both defs c t s p =
    sized_append (cond c (connection_additions defs t p) end) (record_additions defs t s p) (cond c (connection_size defs t) nothing) (record_size defs t s)
    (sized_if c (connection_additions defs t p) end (connection_size defs t) nothing (sized_connection defs t p) sized_none) (sized_record defs t s p)

pub sized_additions : (defs : Defs) (c : Bool) (t : Text) (s : Sels) (p : FilePlace) → Sized (additions defs c t s p) (additions_size defs c t s)
sized_additions defs c t sels.end p = sized_none
sized_additions defs c t (sels.field a n xs ds s rest) p = sized_both defs c t (sels.field a n xs ds s rest) p
sized_additions defs c t (sels.spread n ds rest) p = sized_both defs c t (sels.spread n ds rest) p
sized_additions defs c t (sels.inline o ds s rest) p = sized_both defs c t (sels.inline o ds s rest) p

-- ---- as the code counts them

pub ids_none : (n : ℕ) → n ≡ 0 → nothing ≡ ids_size n
ids_none zero e = refl
ids_none (suc n) e = absurd (omega (arith, e))

pub ids_some : (n m : ℕ) → (n ≡ 0 → ⊥) → m ≡ n + n → record { count = m; depth = 2 } ≡ ids_size n
ids_some zero m h e = absurd (h refl)
ids_some (suc n) m h e = λ i. record { count = e i; depth = 2 }

pub node_none : (a b : Size) → a ≡ b → a.count ≡ 0 → field_size ≡ size_or_typename b.count b
node_none a b e z = sym (filled_none b.count b (sym (ap (λ (s : Size). s.count) e) ∙ z))

pub node_some : (a b : Size) → a ≡ b → (a.count ≡ 0 → ⊥) → a ≡ size_or_typename b.count b
node_some a b e h = e ∙ on b.count refl where
  on : (n : ℕ) → b.count ≡ n → b ≡ size_or_typename b.count b
  on zero f = absurd (h (ap (λ (s : Size). s.count) e ∙ f))
  on (suc n) f = sym (filled_some b.count b (omega (arith, f)))

pub has_set_is : (s : Sels) (b : Bool) → IsTrue b ↔ (s ≡ sels.end) → not b ≡ is_set s
has_set_is sels.end b h = ap not (h.1 refl)
has_set_is (sels.field a n xs ds s t) true h = no (h.0 refl) where
  no : sels.field a n xs ds s t ≡ sels.end → not true ≡ true
  no e = absurd (omega (arith, ap sels.number_of e))
has_set_is (sels.field a n xs ds s t) false h = refl
has_set_is (sels.spread n ds t) true h = no (h.0 refl) where
  no : sels.spread n ds t ≡ sels.end → not true ≡ true
  no e = absurd (omega (arith, ap sels.number_of e))
has_set_is (sels.spread n ds t) false h = refl
has_set_is (sels.inline o ds s t) true h = no (h.0 refl) where
  no : sels.inline o ds s t ≡ sels.end → not true ≡ true
  no e = absurd (omega (arith, ap sels.number_of e))
has_set_is (sels.inline o ds s t) false h = refl
