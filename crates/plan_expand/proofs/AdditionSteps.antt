-- Steps of what is added to the sets of fields.
use Rattle.std.proofs.Common.{◌≡◌, ℕ, ◌+◌, ◌<◌, ◌≤◌, Bool, true, false, true≢false, IsTrue, cond, ◌||◌, List, [], ◌∷◌, drop, length, get_or, Option, Some, None, is_some, bytes_eq, refl, ap, sym, ◌∙◌}
use Rattle.std.specs.Prelude.{◌↔◌, codes, option_map}
use Rattle.std.specs.List.{filter}
use Rattle.std.proofs.lemmas.List.{drop_all, drop_more}
use Rattle.plan_ir.specs.gql_ast.SelectionView.{sel_before, sel_of, sels_of}
use Rattle.plan_ir.specs.gql_ast.Sels as sels
use Rattle.plan_ir.specs.gql_ast.Sels.{Sels}
use Rattle.plan_ir.specs.gql_ast.Ty.{Ty}
use Rattle.plan_ir.specs.gql_ast.Value.{Val}
use Rattle.plan_ir.specs.gql_ast.declared.directive.Directive.{Directive}
use Rattle.plan_ir.specs.gql_ast.declared.place.FilePlace.{FilePlace}
use Rattle.plan_ir.specs.gql_ast.declared.selection.Selection.{Selection}
use Rattle.plan_ir.specs.gql_ast.declared.selection.Selection.TheVariants as S
use Rattle.plan_ir.proofs.gql_plain_laws.Booleans.{or_false}
use Rattle.plan_ir.proofs.NodeLaws.{nodes_append_assoc, nodes_append_end}
use Rattle.plan_ir.specs.Additions.{additions, connection_additions, has_bare, id_field, ids_on, leaf_on, or_typename, record_additions, type_or, typename_field}
use Rattle.plan_ir.specs.Nodes.{Nodes, end, field, inline, nodes_append}
use Rattle.plan_ir.specs.schema_tables.Types.{Text, Defs, base_of, has_id, possible}
use Rattle.plan_expand.specs.Adding.{identified_types, ids_of_each}
use Rattle.plan_ir.proofs.gql_graph_laws.TextSteps.{same_text}

pub ruleset appending = (nodes_append_assoc, nodes_append_end)

-- ---- the ids of the types that a type may be

ids_if : (b : Bool) (t : Text) (p : FilePlace) (ns : Nodes) (ts : List Text) → ns ≡ ids_of_each p ts → cond b (inline (Some t) [] (id_field p) p ns) ns ≡ ids_of_each p (cond b (t ∷ ts) ts)
ids_if true t p ns ts e = ap (λ (ms : Nodes). inline (Some t) [] (id_field p) p ms) e
ids_if false t p ns ts e = e

pub ids_on_is : (defs : Defs) (p : FilePlace) (ts : List Text) → ids_on defs p ts ≡ ids_of_each p (filter (has_id defs) ts)
ids_on_is defs p [] = refl
ids_on_is defs p (t ∷ ts) = ids_if (has_id defs t) t p (ids_on defs p ts) (filter (has_id defs) ts) (ids_on_is defs p ts)

-- one more type, and all of them
pub ids_next : (p : FilePlace) (ts : List Text) (i : ℕ) (t : Text) (old new whole : Nodes) → i < length ts → t ≡ get_or ts i t → new ≡ nodes_append old (ids_of_each p (t ∷ []))
    → nodes_append old (ids_of_each p (drop i ts)) ≡ whole → nodes_append new (ids_of_each p (drop (i + 1) ts)) ≡ whole
ids_next p ts i t old new whole h is put w =
    let rest : List Text = drop (i + 1) ts in
    ap (λ (ns : Nodes). nodes_append ns (ids_of_each p rest)) put
    ∙ nodes_append_assoc old (ids_of_each p (t ∷ [])) (ids_of_each p rest)
    ∙ ap (λ (u : Text). nodes_append old (ids_of_each p (u ∷ rest))) is
    ∙ sym (ap (λ (us : List Text). nodes_append old (ids_of_each p us)) (drop_more ts i t h)) ∙ w

pub ids_end : (p : FilePlace) (ts : List Text) (i : ℕ) (old whole : Nodes) → length ts ≤ i → nodes_append old (ids_of_each p (drop i ts)) ≡ whole → old ≡ whole
ids_end p ts i old whole h w = sym (nodes_append_end old) ∙ sym (ap (λ (us : List Text). nodes_append old (ids_of_each p us)) (drop_all i ts h)) ∙ w

-- ---- fields that stand there already

pub bare_before : (n : Text) (x : Selection) (t : Sels) → has_bare n (sel_before x t) ≡ (has_bare n (sel_of x) || has_bare n t)
bare_before n (S.Field None m [] [] s) t = ap (λ (b : Bool). b || has_bare n t) (sym (or_false (bytes_eq m n)))
bare_before n (S.Field None m [] (d ∷ ds) s) t = refl
bare_before n (S.Field None m (x ∷ xs) ds s) t = refl
bare_before n (S.Field (Some a) m xs ds s) t = refl
bare_before n (S.Spread m ds) t = refl
bare_before n (S.Inline o ds s) t = refl

or_true : (b c : Bool) → b ≡ true → (b || c) ≡ true
or_true true c e = refl
or_true false c e = absurd (true≢false (sym e))

or_same : (b c : Bool) → b ≡ false → (b || c) ≡ c
or_same true c e = absurd (true≢false e)
or_same false c e = refl

-- the field stands here
pub bare_here : (n : Text) (xs : List Selection) (i : ℕ) (x : Selection) → i < length xs → x ≡ get_or xs i x → has_bare n (sel_of x) ≡ true → has_bare n (sels_of (drop i xs)) ≡ true
bare_here n xs i x h is e =
    ap (λ (ys : List Selection). has_bare n (sels_of ys)) (drop_more xs i x h) ∙ ap (λ (y : Selection). has_bare n (sel_before y (sels_of (drop (i + 1) xs)))) (sym is)
    ∙ bare_before n x (sels_of (drop (i + 1) xs)) ∙ or_true (has_bare n (sel_of x)) _ e

-- it does not stand here
pub bare_next : (n : Text) (xs : List Selection) (i : ℕ) (x : Selection) → i < length xs → x ≡ get_or xs i x → has_bare n (sel_of x) ≡ false
    → has_bare n (sels_of (drop i xs)) ≡ has_bare n (sels_of (drop (i + 1) xs))
bare_next n xs i x h is e =
    ap (λ (ys : List Selection). has_bare n (sels_of ys)) (drop_more xs i x h) ∙ ap (λ (y : Selection). has_bare n (sel_before y (sels_of (drop (i + 1) xs)))) (sym is)
    ∙ bare_before n x (sels_of (drop (i + 1) xs)) ∙ or_same (has_bare n (sel_of x)) _ e

pub bare_end : (n : Text) (xs : List Selection) (i : ℕ) → length xs ≤ i → has_bare n (sels_of (drop i xs)) ≡ false
bare_end n xs i h = ap (λ (ys : List Selection). has_bare n (sels_of ys)) (drop_all i xs h)

-- a field is not bare with an alias, with arguments, or with directives
pub bare_alias : (n m : Text) (a : Option Text) (xs : List (Text × Val)) (ds : List Directive) (s : Sels) → is_some a ≡ true → false ≡ has_bare n (sels.field a m xs ds s sels.end)
bare_alias n m None xs ds s e = absurd (true≢false (sym e))
bare_alias n m (Some a) xs ds s e = refl

pub bare_arguments : (n m : Text) (a : Option Text) (xs : List (Text × Val)) (ds : List Directive) (s : Sels) (b : Bool) → IsTrue b ↔ (xs ≡ []) → b ≡ false → false ≡ has_bare n (sels.field a m xs ds s sels.end)
bare_arguments n m a [] ds s b h e = absurd (true≢false (sym (h.1 refl) ∙ e))
bare_arguments n m None (x ∷ xs) ds s b h e = refl
bare_arguments n m (Some a) (x ∷ xs) ds s b h e = refl

pub bare_directives : (n m : Text) (a : Option Text) (xs : List (Text × Val)) (ds : List Directive) (s : Sels) (b : Bool) → IsTrue b ↔ (ds ≡ []) → b ≡ false → false ≡ has_bare n (sels.field a m xs ds s sels.end)
bare_directives n m a xs [] s b h e = absurd (true≢false (sym (h.1 refl) ∙ e))
bare_directives n m None [] (d ∷ ds) s b h e = refl
bare_directives n m None (x ∷ xs) (d ∷ ds) s b h e = refl
bare_directives n m (Some a) xs (d ∷ ds) s b h e = refl

-- and else it is, under that name
pub bare_name : (n m : Text) (a : Option Text) (xs : List (Text × Val)) (ds : List Directive) (s : Sels) (b c : Bool) → is_some a ≡ false → IsTrue b ↔ (xs ≡ []) → b ≡ true
    → IsTrue c ↔ (ds ≡ []) → c ≡ true → bytes_eq m n ≡ has_bare n (sels.field a m xs ds s sels.end)
bare_name n m (Some a) xs ds s b c alias h e k f = absurd (true≢false alias)
bare_name n m None xs ds s b c alias h e k f =
    sym (or_false (bytes_eq m n)) ∙ sym ((λ i. has_bare n (sels.field None m (h.0 e i) (k.0 f i) s sels.end)))

-- ---- sets

pub additions_none : (defs : Defs) (c : Bool) (t : Text) (s : Sels) (p : FilePlace) (b : Bool) (old : Nodes) → IsTrue b ↔ (s ≡ sels.end) → b ≡ true → old ≡ nodes_append old (additions defs c t s p)
additions_none defs c t s p b old h e = sym (nodes_append_end old) ∙ sym (ap (λ (r : Sels). nodes_append old (additions defs c t r p)) (h.0 e))

pub additions_of : (defs : Defs) (c : Bool) (t : Text) (s : Sels) (p : FilePlace) (b : Bool) → IsTrue b ↔ (s ≡ sels.end) → b ≡ false
    → nodes_append (cond c (connection_additions defs t p) end) (record_additions defs t s p) ≡ additions defs c t s p
additions_of defs c t sels.end p b h e = absurd (true≢false (sym (h.1 refl) ∙ e))
additions_of defs c t (sels.field a n xs ds s rest) p b h e = refl
additions_of defs c t (sels.spread n ds rest) p b h e = refl
additions_of defs c t (sels.inline o ds s rest) p b h e = refl

pub with_connection : (defs : Defs) (c : Bool) (t : Text) (s : Sels) (p : FilePlace) (b : Bool) (old mid new : Nodes) → IsTrue b ↔ (s ≡ sels.end) → b ≡ false → c ≡ true
    → mid ≡ nodes_append old (connection_additions defs t p) → new ≡ nodes_append mid (record_additions defs t s p) → new ≡ nodes_append old (additions defs c t s p)
with_connection defs c t s p b old mid new h e k put more =
    more ∙ ap (λ (ns : Nodes). nodes_append ns (record_additions defs t s p)) put ∙ nodes_append_assoc old (connection_additions defs t p) (record_additions defs t s p)
    ∙ sym (ap (λ (d : Bool). nodes_append old (nodes_append (cond d (connection_additions defs t p) end) (record_additions defs t s p))) k) ∙ ap (nodes_append old) (additions_of defs c t s p b h e)

pub record_only : (defs : Defs) (c : Bool) (t : Text) (s : Sels) (p : FilePlace) (b : Bool) (old new : Nodes) → IsTrue b ↔ (s ≡ sels.end) → b ≡ false → c ≡ false
    → new ≡ nodes_append old (record_additions defs t s p) → new ≡ nodes_append old (additions defs c t s p)
record_only defs c t s p b old new h e k put =
    put ∙ sym (ap (λ (d : Bool). nodes_append old (nodes_append (cond d (connection_additions defs t p) end) (record_additions defs t s p))) k) ∙ ap (nodes_append old) (additions_of defs c t s p b h e)

pub typename_put : (ns : Nodes) (p : FilePlace) (b : Bool) → IsTrue b ↔ (ns ≡ end) → b ≡ true → nodes_append ns (typename_field p) ≡ or_typename ns p
typename_put ns p b h e = ap (λ (ms : Nodes). nodes_append ms (typename_field p)) (h.0 e) ∙ sym (ap (λ (ms : Nodes). or_typename ms p) (h.0 e))

pub typename_left : (ns : Nodes) (p : FilePlace) (b : Bool) → IsTrue b ↔ (ns ≡ end) → b ≡ false → ns ≡ or_typename ns p
typename_left end p b h e = absurd (true≢false (sym (h.1 refl) ∙ e))
typename_left (field r n xs ds c of s q rest) p b h e = refl
typename_left (inline o ds s q rest) p b h e = refl

-- ---- pages

abbrev pub page_fields : Defs → (info : Text) → Sels → FilePlace → Nodes
page_fields defs info s p =
    nodes_append (leaf_on defs info p (codes "endCursor")) (nodes_append (leaf_on defs info p (codes "hasNextPage"))
    (nodes_append (leaf_on defs info p (codes "hasPreviousPage")) (nodes_append (leaf_on defs info p (codes "startCursor"))
    (record_additions defs info s p))))

-- five parts behind one another
pub five_put : (m n o q r a b c d e : Nodes) → m ≡ nodes_append end a → n ≡ nodes_append m b → o ≡ nodes_append n c → q ≡ nodes_append o d → r ≡ nodes_append q e
    → r ≡ nodes_append a (nodes_append b (nodes_append c (nodes_append d e)))
five_put m n o q r a b c d e first second third fourth fifth =
    fifth
    ∙ ap (λ (ns : Nodes). nodes_append ns e) (fourth ∙ ap (λ (ns : Nodes). nodes_append ns d) (third ∙ ap (λ (ns : Nodes). nodes_append ns c) (second ∙ ap (λ (ns : Nodes). nodes_append ns b) first)))
    ∙ nodes_append_assoc (nodes_append (nodes_append a b) c) d e ∙ nodes_append_assoc (nodes_append a b) c (nodes_append d e) ∙ nodes_append_assoc a b (nodes_append c (nodes_append d e))

-- ---- the types that are kept

-- one more type is kept
pub right_with : (defs : Defs) (of : Text) (names : List Text) (old new : Text → Option (List Text)) → ((n : Text) (ids : List Text) → old n ≡ Some ids → ids ≡ identified_types defs n)
    → names ≡ identified_types defs of → ((n : Text) → new n ≡ cond (bytes_eq of n) (Some names) (old n)) → (n : Text) (ids : List Text) → new n ≡ Some ids → ids ≡ identified_types defs n
right_with defs of names old new right is put n ids e = on (bytes_eq of n) refl (sym (put n) ∙ e) where
  on : (b : Bool) → bytes_eq of n ≡ b → cond b (Some names) (old n) ≡ Some ids → ids ≡ identified_types defs n
  on true h g = let s : names ≡ ids = cc g in sym s ∙ is ∙ ap (identified_types defs) (same_text of n h)
  on false h g = right n ids g

-- what each type that may be and has an id gives
pub identified_put : (defs : Defs) (of : Text) (p : FilePlace) (ns : Nodes) (names : List Text) → names ≡ identified_types defs of → nodes_append ns (ids_of_each p names) ≡ nodes_append ns (ids_on defs p (possible defs of))
identified_put defs of p ns names e = ap (λ (l : List Text). nodes_append ns (ids_of_each p l)) e ∙ sym (ap (nodes_append ns) (ids_on_is defs p (possible defs of)))

-- ---- the named type of a field

-- the field is there
pub base_some : (o : Option Ty) (b : Text) → Some b ≡ option_map base_of o → b ≡ base_of (type_or o)
base_some None b e = cc
base_some (Some t) b e = cc

-- there is none
pub base_none : (o : Option Ty) → None ≡ option_map base_of o → [] ≡ base_of (type_or o)
base_none None e = refl
base_none (Some t) e = cc
