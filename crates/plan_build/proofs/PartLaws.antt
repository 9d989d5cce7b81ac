-- Where fields merge, the fields of one response key on an object type are one field, and what stands below them merges too.
use Rattle.std.proofs.Common.{◌≡◌, zero, suc, Bool, true, false, true≢false, cond, ◌&&◌, List, [], ◌∷◌, ◌++◌, map, Option, Some, None, bytes_eq, refl, ap, sym, ◌∙◌, subst, ◌⊎◌, inl, inr, arith}
use Rattle.std.specs.List.{All, AllByRecursion}
use Rattle.std.specs.Prelude.{codes}
use Rattle.plan_ir.specs.gql_ast.Ty.{Ty}
use Rattle.plan_ir.specs.gql_ast.Value.{Val}
use Rattle.plan_ir.proofs.gql_graph_laws.TextSteps.{same_self, same_text}
use Rattle.plan_ir.specs.gql_plain.Order.{has_text}
use Rattle.plan_ir.specs.gql_plain.declared.ids.Conn.{Conn}
use Rattle.plan_ir.specs.Additions.{type_on}
use Rattle.plan_ir.specs.Nodes as nodes
use Rattle.plan_ir.specs.Nodes.{Nodes}
use Rattle.relay_model.specs.plan_collect.Collecting.{applies, is_left_out}
use Rattle.relay_model.specs.Collection.{below_type, form_on}
use Rattle.plan_ir.specs.schema_rules.Rules.{is_object}
use Rattle.plan_ir.specs.schema_tables.Fits.{is_list_type}
use Rattle.plan_ir.specs.schema_tables.Types.{Text, Defs, base_of, is_composite, possible}
use Rattle.plan_ir.specs.schema_types.Environments.{Values}
use Rattle.plan_ir.specs.store_model.Alike.{Among}
use Rattle.plan_ir.specs.store_model.Items.{Asked, Below, typename, leaf, one, many}
use Rattle.plan_ir.specs.store_model.Reaches.{types_of}
use Rattle.doc_merge.proofs.GatherSteps.{rows_before}
use Rattle.doc_merge.specs.Collected.{AreAlike, Pairwise, last_field, may_be_on}
use Rattle.doc_merge.specs.Gathering.{fields_of, object_or_none, on_or}
use Rattle.doc_merge.specs.Merging as merging
use Rattle.doc_merge.specs.Merging.{Field, Fields, no_fields}
use Rattle.doc_merge.specs.Paths.{Path, Row, here, under, paths, rows_of}
use Rattle.doc_merge.specs.Shapes.{shape_of}
use Rattle.plan_build.proofs.ClassLaws.{Differ}
use Rattle.plan_build.proofs.Grouped.{each_so}
use Rattle.plan_build.proofs.OrderLaws.{differ_possible}
use Rattle.plan_build.proofs.Parts.{Part, child, gather, gather_all, gather_in}
use Rattle.plan_build.proofs.StepLaws.{AreSound, inside_type}
use Rattle.plan_build.specs.FieldsAlike.{HaveOneName}
use Rattle.plan_build.specs.NodesMeaning.{ask_of_node}
use Rattle.plan_build.specs.Steps.{types_at}
use Rattle.plan_build.specs.Suited.{FieldSuits, Suited, type_inside}

-- ---- lists

pub among_left : {X : Type 0} (x : X) (xs ys : List X) → Among x xs → Among x (xs ++ ys)
among_left x [] ys h = absurd h
among_left x (z ∷ xs) ys (inl e) = inl e
among_left x (z ∷ xs) ys (inr h) = inr (among_left x xs ys h)

pub among_right : {X : Type 0} (x : X) (xs ys : List X) → Among x ys → Among x (xs ++ ys)
among_right x [] ys h = h
among_right x (z ∷ xs) ys h = inr (among_right x xs ys h)

pub among_map : {X Y : Type 0} (f : X → Y) (x : X) (xs : List X) → Among x xs → Among (f x) (map f xs)
among_map f x [] h = absurd h
among_map f x (z ∷ xs) (inl e) = inl (ap f e)
among_map f x (z ∷ xs) (inr h) = inr (among_map f x xs h)

pub each_append : {X : Type 0} (P : X → Type 0) (xs ys : List X) → AllByRecursion P xs → AllByRecursion P ys → AllByRecursion P (xs ++ ys)
each_append P [] ys h k = k
each_append P (x ∷ xs) ys h k = (h.0, each_append P xs ys h.1 k)

pub each_left : {X : Type 0} (P : X → Type 0) (left_out : Bool) (xs : List X) → AllByRecursion P xs → AllByRecursion P (cond left_out [] xs)
each_left P true xs h = tt
each_left P false xs h = h

pub each_if : {X : Type 0} (P : X → Type 0) (b : Bool) (xs : List X) → (b ≡ true → AllByRecursion P xs) → AllByRecursion P (cond b xs [])
each_if P true xs h = h refl
each_if P false xs h = tt

-- ---- what is known of a part on an object type, and of a field that is gathered there

pub record Holds (defs : Defs) (T : Text) (p : Part) : Type 0 where
  pub suited : Suited defs p.around p.type p.set.nodes
  pub differ : Differ p.types
  pub here : has_text p.types T ≡ true
  pub there : has_text (possible defs p.type) T ≡ true
  pub alone : is_object defs p.around ≡ true → T ≡ p.around

-- the types that a set is planned for differ, and are all that its static type may be
pub differ_at : (defs : Defs) (t : Text) → Differ (types_at defs t)
differ_at defs t = on (is_composite defs t) where
  on : (b : Bool) → Differ (cond b (possible defs t) [])
  on true = differ_possible defs t
  on false = tt

pub types_there : (defs : Defs) → AreSound defs → (t U : Text) → has_text (possible defs t) U ≡ true → has_text (types_at defs t) U ≡ true
types_there defs sound t U h = on (is_composite defs t) refl where
  on : (b : Bool) → is_composite defs t ≡ b → has_text (cond b (possible defs t) []) U ≡ true
  on true e = h
  on false e = absurd (true≢false (sym h ∙ sound.nothing t U e))

-- each object type that a field of this form may lead to is one of its static type
pub below_within : (defs : Defs) (T n : Text) (xs : List (Text × Val)) (c : Option Conn) (of : Ty) → FieldSuits defs T n xs c of
    → (U : Text) → has_text (types_of (form_on defs T n)) U ≡ true → has_text (possible defs (base_of of)) U ≡ true
below_within defs T n xs c of suits U h =
    on (bytes_eq n (codes "__typename")) (is_composite defs (base_of (type_on defs T n))) (is_list_type (type_on defs T n)) refl h where
      below : Below
      below = below_type defs (base_of (type_on defs T n))

      on : (b k l : Bool) → bytes_eq n (codes "__typename") ≡ b
          → has_text (types_of (cond b typename (cond k (cond l (many below) (one below)) leaf))) U ≡ true → has_text (possible defs (base_of of)) U ≡ true
      on true k l e f = absurd (true≢false (sym f))
      on false true true e f = suits.within e U f
      on false true false e f = suits.within e U f
      on false false l e f = absurd (true≢false (sym f))

abbrev pub fields : Defs → Part → Fields
fields defs p = fields_of defs p.around p.set.nodes

pub record Gathered (defs : Defs) (T : Text) (rows : List Row) (a : Asked Part) : Type 0 where
  pub form : a.ask.form ≡ form_on defs T a.ask.name
  pub differ : Differ a.part.types
  pub below : (U : Text) → has_text (types_of a.ask.form) U ≡ true → has_text (possible defs a.part.type) U ≡ true
  pub here : (U : Text) → has_text (types_of a.ask.form) U ≡ true → has_text a.part.types U ≡ true
  pub suited : Suited defs a.part.around a.part.type a.part.set.nodes
  pub alone : (U : Text) → has_text (possible defs a.part.type) U ≡ true → is_object defs a.part.around ≡ true → U ≡ a.part.around
  pub field : Field
  pub key : field.key ≡ a.ask.response
  pub name : field.signature.name ≡ a.ask.name
  pub parent : may_be_on T field.parent ≡ true
  pub row : Among {X = Row} ([], field, fields defs a.part) rows

widened : (defs : Defs) (T : Text) (rows more : List Row) → ((w : Row) → Among w rows → Among w more) → (a : Asked Part) → Gathered defs T rows a → Gathered defs T more a
widened defs T rows more wide a g = record {
  form = g.form;
  differ = g.differ;
  below = g.below;
  here = g.here;
  suited = g.suited;
  alone = g.alone;
  field = g.field;
  key = g.key;
  name = g.name;
  parent = g.parent;
  row = wide ([], g.field, fields defs a.part) g.row;
}

parent_meets : (defs : Defs) (T around : Text) → (is_object defs around ≡ true → T ≡ around) → may_be_on T (object_or_none defs around) ≡ true
parent_meets defs T around alone = on (is_object defs around) refl where
  on : (b : Bool) → is_object defs around ≡ b → may_be_on T (cond b (Some around) None) ≡ true
  on true e = ap (bytes_eq T) (sym (alone e)) ∙ same_self T
  on false e = refl

pub inside_alone : (defs : Defs) → AreSound defs → (around : Text) (o : Option Text) (T : Text) → (is_object defs around ≡ true → T ≡ around) → applies defs o T ≡ true
    → is_object defs (on_or around o) ≡ true → T ≡ on_or around o
inside_alone defs sound around None T alone e = alone
inside_alone defs sound around (Some o) T alone e = λ h. sound.alone o T h e

abbrev rows_in : Defs → (around : Text) → Nodes → List Row
rows_in defs around s = rows_of [] (fields_of defs around s)

all_gathered : (defs : Defs) → AreSound defs → (T : Text) (env : Values) (around t : Text) (s : Nodes) → has_text (possible defs t) T ≡ true → (is_object defs around ≡ true → T ≡ around)
    → Suited defs around t s → AllByRecursion (Gathered defs T (rows_in defs around s)) (gather_in defs T env s)
all_gathered defs sound T env around t nodes.end there alone suited = tt
all_gathered defs sound T env around t (nodes.field r n xs ds c of s p rest) there alone suited =
    let own : Field = record { key = r; parent = object_or_none defs around; shape = shape_of defs of; signature = record { name = n; arguments = xs }; place = p } in
    let rows : List Row = rows_in defs around (nodes.field r n xs ds c of s p rest) in
    let suits = suited.0 T there in
    each_append (Gathered defs T rows) (cond (is_left_out env ds) [] (record { ask = ask_of_node defs T env r n xs c; part = child defs env of s } ∷ [])) (gather_in defs T env rest)
    (each_left (Gathered defs T rows) (is_left_out env ds) (record { ask = ask_of_node defs T env r n xs c; part = child defs env of s } ∷ []) (
      record {
        form = refl;
        differ = differ_at defs (base_of of);
        below = below_within defs T n xs c of suits;
        here = λ U h. types_there defs sound (base_of of) U (below_within defs T n xs c of suits U h);
        suited = suited.1;
        alone = λ U k o. sound.alone (base_of of) U o k;
        field = own;
        key = refl;
        name = refl;
        parent = parent_meets defs T around alone;
        row = inl refl;
      },
      tt,
    ))
    (each_so (Gathered defs T (rows_in defs around rest)) (Gathered defs T rows) (gather_in defs T env rest) (widened defs T (rows_in defs around rest) rows (λ w h. inr h))
    (all_gathered defs sound T env around t rest there alone suited.2))
all_gathered defs sound T env around t (nodes.inline o ds s p rest) there alone suited =
    let rows : List Row = rows_in defs around (nodes.inline o ds s p rest) in
    let parts : rows ≡ rows_in defs (on_or around o) s ++ rows_in defs around rest = rows_before defs [] (on_or around o) s (fields_of defs around rest) in
    each_append (Gathered defs T rows) (cond (is_left_out env ds) [] (cond (applies defs o T) (gather_in defs T env s) [])) (gather_in defs T env rest)
    (each_left (Gathered defs T rows) (is_left_out env ds) (cond (applies defs o T) (gather_in defs T env s) []) (each_if (Gathered defs T rows) (applies defs o T) (gather_in defs T env s) (λ it.
    each_so (Gathered defs T (rows_in defs (on_or around o) s)) (Gathered defs T rows) (gather_in defs T env s)
    (widened defs T (rows_in defs (on_or around o) s) rows (λ w h. subst (Among w) (sym parts) (among_left w (rows_in defs (on_or around o) s) (rows_in defs around rest) h)))
    (all_gathered defs sound T env (on_or around o) (type_inside defs t o) s (inside_type defs t o T there it) (inside_alone defs sound around o T alone it) suited.0))))
    (each_so (Gathered defs T (rows_in defs around rest)) (Gathered defs T rows) (gather_in defs T env rest)
    (widened defs T (rows_in defs around rest) rows (λ w h. subst (Among w) (sym parts) (among_right w (rows_in defs (on_or around o) s) (rows_in defs around rest) h)))
    (all_gathered defs sound T env around t rest there alone suited.1))

-- ---- paths

row_here : (a : Field) (below fs : Fields) → Among {X = Row} ([], a, below) (rows_of [] fs) → Among (here a) (paths fs)
row_here a below no_fields h = absurd h
row_here a below (merging.field b inner next) (inl e) = inl (ap (λ (w : Row). here w.1) e)
row_here a below (merging.field b inner next) (inr h) = inr (among_right (here a) (map (under b) (paths inner)) (paths next) (row_here a below next h))

row_under : (a : Field) (below fs : Fields) → Among {X = Row} ([], a, below) (rows_of [] fs) → (s : Path) → Among s (paths below) → Among (under a s) (paths fs)
row_under a below no_fields h s there = absurd h
row_under a below (merging.field b inner next) (inl e) s there =
    inr (among_left (under a s) (map (under b) (paths inner)) (paths next)
    (subst (λ (w : Row). Among (under w.1 s) (map (under b) (paths inner))) e (among_map (under b) s (paths inner) (subst (λ (w : Row). Among s (paths w.2)) (sym e) there))))
row_under a below (merging.field b inner next) (inr h) s there = inr (among_right (under a s) (map (under b) (paths inner)) (paths next) (row_under a below next h s there))

-- ---- parts whose fields merge: those collected for the same objects under the same keys have one name

abbrev pub Merge : Defs → List Part → Type 0
Merge defs ps = (p q : Part) → Among p ps → Among q ps → (s u : Path) → Among s (paths (fields defs p)) → Among u (paths (fields defs q)) → HaveOneName s u

pub record GatheredFrom (defs : Defs) (T : Text) (ps : List Part) (a : Asked Part) : Type 0 where
  pub part : Part
  pub among : Among part ps
  pub gathered : Gathered defs T (rows_of [] (fields defs part)) a

from_more : (defs : Defs) (T : Text) (q : Part) (ps : List Part) (a : Asked Part) → GatheredFrom defs T ps a → GatheredFrom defs T (q ∷ ps) a
from_more defs T q ps a g = record { part = g.part; among = inr g.among; gathered = g.gathered }

pub all_from : (defs : Defs) → AreSound defs → (T : Text) (ps : List Part) → AllByRecursion (Holds defs T) ps → AllByRecursion (GatheredFrom defs T ps) (gather_all defs T ps)
all_from defs sound T [] h = tt
all_from defs sound T (p ∷ ps) h =
    each_append (GatheredFrom defs T (p ∷ ps)) (gather defs T p) (gather_all defs T ps)
    (each_so (Gathered defs T (rows_of [] (fields defs p))) (GatheredFrom defs T (p ∷ ps)) (gather defs T p) (λ a g. record { part = p; among = inl refl; gathered = g })
    (all_gathered defs sound T p.set.environment p.around p.type p.set.nodes h.0.there h.0.alone h.0.suited))
    (each_so (GatheredFrom defs T ps) (GatheredFrom defs T (p ∷ ps)) (gather_all defs T ps) (from_more defs T p ps) (all_from defs sound T ps h.1))

module _ (defs : Defs) (T : Text) (ps : List Part) (merge : Merge defs ps) (a b : Asked Part) (g : GatheredFrom defs T ps a) (h : GatheredFrom defs T ps b) (same : a.ask.response ≡ b.ask.response) where
  keys : g.gathered.field.key ≡ h.gathered.field.key
  keys = g.gathered.key ∙ same ∙ sym h.gathered.key

  -- two fields of one response key have one name
  pub one_name : a.ask.name ≡ b.ask.name
  one_name =
      sym g.gathered.name
      ∙ merge g.part h.part g.among h.among (here g.gathered.field) (here h.gathered.field)
      (row_here g.gathered.field (fields defs a.part) (fields defs g.part) g.gathered.row) (row_here h.gathered.field (fields defs b.part) (fields defs h.part) h.gathered.row)
      (T ∷ []) g.gathered.parent h.gathered.parent (ap (λ (k : Text). k ∷ []) keys)
      ∙ h.gathered.name

  pub one_form : a.ask.form ≡ b.ask.form
  one_form = g.gathered.form ∙ ap (form_on defs T) one_name ∙ sym h.gathered.form

  both_true : (x y : Bool) → x ≡ true → y ≡ true → (x && y) ≡ true
  both_true true y e f = f
  both_true false y e f = absurd (true≢false (sym e))

  -- and so has what stands below them
  pub names_below : (s u : Path) → Among s (paths (fields defs a.part)) → Among u (paths (fields defs b.part)) → HaveOneName s u
  names_below s u there back objects f k e =
      merge g.part h.part g.among h.among (under g.gathered.field s) (under h.gathered.field u)
      (row_under g.gathered.field (fields defs a.part) (fields defs g.part) g.gathered.row s there) (row_under h.gathered.field (fields defs b.part) (fields defs h.part) h.gathered.row u back)
      (T ∷ objects) (both_true _ _ g.gathered.parent f) (both_true _ _ h.gathered.parent k) (λ i. keys i ∷ e i)

-- ---- at the root

all_of : {X : Type 0} (P : X → Type 0) (x : X) (xs : List X) → All P xs → Among x xs → P x
all_of P x [] all h = absurd h
all_of P x (y ∷ ys) all (inl e) = subst P e (all zero y (omega arith))
all_of P x (y ∷ ys) all (inr h) = all_of P x ys (λ k d low. all (suc k) d (omega arith)) h

pairs_of : {X : Type 0} (r : X → X → Type 0) (x y : X) (xs : List X) → Pairwise r xs → Among x xs → Among y xs → (x ≡ y) ⊎ ((r x y) ⊎ (r y x))
pairs_of r x y [] all h k = absurd h
pairs_of r x y (z ∷ xs) all (inl e) (inl f) = inl (sym e ∙ f)
pairs_of r x y (z ∷ xs) all (inl e) (inr k) = inr (inl (subst (λ w. r w y) e (all_of (r z) y xs all.0 k)))
pairs_of r x y (z ∷ xs) all (inr h) (inl f) = inr (inr (subst (λ w. r w x) f (all_of (r z) x xs all.0 h)))
pairs_of r x y (z ∷ xs) all (inr h) (inr k) = pairs_of r x y xs all.1 h k

first_so : (a b : Bool) → (a && b) ≡ true → a ≡ true
first_so true b e = refl
first_so false b e = absurd (true≢false (sym e))

name_of_alike : (s u : Path) → AreAlike s u → HaveOneName s u
name_of_alike s u alike objects f g e = same_text _ _ (first_so _ _ (alike objects f g e).signature)

pub one_name_each : (fs : Fields) → Pairwise AreAlike (paths fs) → (s u : Path) → Among s (paths fs) → Among u (paths fs) → HaveOneName s u
one_name_each fs all s u h k = on (pairs_of AreAlike s u (paths fs) all h k) where
  on : (s ≡ u) ⊎ ((AreAlike s u) ⊎ (AreAlike u s)) → HaveOneName s u
  on (inl e) = λ objects f g q. ap (λ (w : Path). (last_field w).signature.name) e
  on (inr (inl a)) = name_of_alike s u a
  on (inr (inr a)) = λ objects f g q. sym (name_of_alike u s a objects g f (sym q))
