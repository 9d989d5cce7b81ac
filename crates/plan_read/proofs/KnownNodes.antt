-- What selections that are read give is among what the nodes give that they become: the same fields, with what stands below them there, and
-- pointers whose fields all stand among those of the nodes.
use Rattle.std.proofs.Common.{◌≡◌, ℕ, zero, suc, ◌+◌, Bool, true, false, cond, List, [], ◌∷◌, ◌++◌, map, Option, Some, None, refl, ap, sym, ◌∙◌, subst, append_assoc, inl, inr}
use Rattle.std.specs.List.{AllByRecursion}
use Rattle.std.specs.Prelude.{is_some}
use Rattle.plan_build.specs.doc_merge.Gathering.{fields_before, fields_of, object_or_none, on_or}
use Rattle.plan_build.specs.doc_merge.Merging as merging
use Rattle.plan_build.specs.doc_merge.Merging.{Field, Fields, no_fields}
use Rattle.plan_build.specs.doc_merge.Paths.{Path, here, under, paths}
use Rattle.plan_build.specs.doc_merge.Shapes.{shape_of}
use Rattle.plan_ir.specs.gql_ast.Sels as sels
use Rattle.plan_ir.specs.gql_ast.Sels.{Sels}
use Rattle.plan_ir.specs.gql_ast.Ty.{Ty}
use Rattle.plan_ir.specs.gql_ast.declared.directive.Directive.{Directive}
use Rattle.plan_ir.specs.gql_ast.declared.place.FilePlace.{FilePlace}
use Rattle.plan_ir.specs.gql_plain.Order.{has_text}
use Rattle.plan_build.proofs.ClassLaws.{Differ}
use Rattle.plan_build.proofs.Grouped.{each_so, seen}
use Rattle.plan_build.proofs.PartLaws.{Holds, among_left, among_right, below_within, differ_at, types_there, each_append, fields, inside_alone}
use Rattle.plan_build.proofs.Parts as parts
use Rattle.plan_build.proofs.StepLaws.{AreSound, inside_type}
use Rattle.plan_build.specs.NodesMeaning.{ask_of_node}
use Rattle.plan_build.specs.Suited.{Suited, type_inside}
use Rattle.plan_ir.specs.Additions.{additions, type_or}
use Rattle.plan_ir.specs.Expansion.{Project, enter_with, expansion, expansion_with, printed_conditions, printed_directives, response_key, selections_from}
use Rattle.plan_ir.specs.Nodes as nodes
use Rattle.plan_ir.specs.Nodes.{Nodes, nodes_append}
use Rattle.plan_ir.specs.Substitution.{Arguments, Scope, scope_at_spread, substitute_in}
use Rattle.plan_read.proofs.KnownParts.{Entered, Known, as_nodes, gather, gather_in, gather_with, known_at, known_below, known_field, known_inside, known_pointer, known_spread, not_entered, types_inside}
use Rattle.plan_read.proofs.KnownSteps.{nodes_inside, suited_before}
use Rattle.plan_read.proofs.ReaderItems.{differ_inside, has_inside}
use Rattle.plan_build.proofs.plan_collect_laws.Collects.{nodes_append-end}
use Rattle.plan_build.proofs.plan_collect_laws.Evaluating.{Means, means_inside}
use Rattle.plan_build.specs.plan_collect.Collecting.{applies, environment_inside, is_left_out}
use Rattle.plan_ir.specs.relay_marks.Connections.{connection_among}
use Rattle.plan_build.specs.relay_model.Collection.{is_open}
use Rattle.plan_ir.specs.schema_rules.Rules.{is_object}
use Rattle.plan_ir.specs.schema_tables.Types.{Text, Defs, base_of, possible}
use Rattle.plan_ir.specs.schema_trees.Located.{directives_nodes}
use Rattle.plan_ir.specs.schema_types.Environments.{Values}
use Rattle.plan_ir.specs.schema_types.NameRules.{fragment_named}
use Rattle.plan_ir.specs.schema_types.Sites.{FragmentAt, arguments_nodes, below, condition_or, field_type, head_nodes, optional_name_nodes, selections_nodes}
use Rattle.plan_ir.specs.store_model.Alike.{Among}
use Rattle.plan_ir.specs.store_model.Items.{Asked, Item, asked, pointed}
use Rattle.plan_ir.specs.store_model.Reaches.{types_of}

-- ---- nodes behind one another

abbrev field_of : Defs → (around : Text) → (response name : Text) → Arguments → Ty → FilePlace → Field
field_of defs around r n xs of p = record { key = r; parent = object_or_none defs around; shape = shape_of defs of; signature = record { name = n; arguments = xs }; place = p }

paths_before : (defs : Defs) (around : Text) (s : Nodes) (after : Fields) → paths (fields_before defs around s after) ≡ paths (fields_of defs around s) ++ paths after
paths_before defs around nodes.end after = refl
paths_before defs around (nodes.field r n xs ds c of s p rest) after =
    let own : Field = field_of defs around r n xs of p in
    let inner : List Path = map (under own) (paths (fields_of defs (base_of of) s)) in
    ap (λ (ws : List Path). here own ∷ (inner ++ ws)) (paths_before defs around rest after)
    ∙ ap (λ (ws : List Path). here own ∷ ws) (sym (append_assoc inner (paths (fields_of defs around rest)) (paths after)))
paths_before defs around (nodes.inline o ds s p rest) after =
    paths_before defs (on_or around o) s (fields_before defs around rest after)
    ∙ ap (λ (ws : List Path). paths (fields_of defs (on_or around o) s) ++ ws) (paths_before defs around rest after)
    ∙ sym (append_assoc (paths (fields_of defs (on_or around o) s)) (paths (fields_of defs around rest)) (paths after))
    ∙ ap (λ (ws : List Path). ws ++ paths after) (sym (paths_before defs (on_or around o) s (fields_of defs around rest)))

before_append : (defs : Defs) (around : Text) (a b : Nodes) (after : Fields) → fields_before defs around (nodes_append a b) after ≡ fields_before defs around a (fields_before defs around b after)
before_append defs around nodes.end b after = refl
before_append defs around (nodes.field r n xs ds c of s p rest) b after =
    ap (merging.field (field_of defs around r n xs of p) (fields_of defs (base_of of) s)) (before_append defs around rest b after)
before_append defs around (nodes.inline o ds s p rest) b after = ap (fields_before defs (on_or around o) s) (before_append defs around rest b after)

paths_append : (defs : Defs) (around : Text) (a b : Nodes) → paths (fields_of defs around (nodes_append a b)) ≡ paths (fields_of defs around a) ++ paths (fields_of defs around b)
paths_append defs around a b = ap paths (before_append defs around a b no_fields) ∙ paths_before defs around a (fields_of defs around b)

gathered_append : (defs : Defs) (T : Text) (env : Values) (a b : Nodes) → parts.gather_in defs T env (nodes_append a b) ≡ parts.gather_in defs T env a ++ parts.gather_in defs T env b
gathered_append defs T env nodes.end b = refl
gathered_append defs T env (nodes.field r n xs ds c of s p rest) b =
    let first : List (Asked parts.Part) = cond (is_left_out env ds) [] (record { ask = ask_of_node defs T env r n xs c; part = parts.child defs env of s } ∷ []) in
    ap (λ (z : List (Asked parts.Part)). first ++ z) (gathered_append defs T env rest b) ∙ sym (append_assoc first (parts.gather_in defs T env rest) (parts.gather_in defs T env b))
gathered_append defs T env (nodes.inline o ds s p rest) b =
    let first : List (Asked parts.Part) = cond (is_left_out env ds) [] (cond (applies defs o T) (parts.gather_in defs T env s) []) in
    ap (λ (z : List (Asked parts.Part)). first ++ z) (gathered_append defs T env rest b) ∙ sym (append_assoc first (parts.gather_in defs T env rest) (parts.gather_in defs T env b))

-- ---- what is known of selections that are read at a type

pub record Stands (p : Project) (own : Values) (T : Text) (x : Known) : Type 0 where
  pub means : Means own x.scope x.part.environment
  pub differ : Differ x.types
  pub here : has_text x.types T ≡ true
  pub met : has_text x.met T ≡ true
  pub holds : Holds p.defs T (as_nodes p own x)

abbrev pub seen_nodes : Project → Values → Asked Known → Asked parts.Part
seen_nodes p own = seen (λ (a : Asked Known). as_nodes p own a.part)

-- a field that nodes give too
pub record IsGiven (p : Project) (own : Values) (ns : List (Asked parts.Part)) (a : Asked Known) : Type 0 where
  pub among : Among (seen_nodes p own a) ns
  pub types : a.part.met ≡ types_of a.ask.form
  pub wide : (U : Text) → has_text (types_of a.ask.form) U ≡ true → has_text a.part.types U ≡ true
  pub means : Means own a.part.scope a.part.part.environment
  pub differ : Differ a.part.types

module _ (p : Project) (own : Values) (T : Text) where
  -- an item whose fields, and those below them, are given and have their paths there
  abbrev pub Covers : List (Asked parts.Part) → List Path → Item Known → Type 0
  Covers ns fs (asked a) = IsGiven p own ns a
  Covers ns fs (pointed q) = Stands p own T q.body × ((s : Path) → Among s (paths (fields p.defs (as_nodes p own q.body))) → Among s fs)

  abbrev pub Covered : List (Asked parts.Part) → List Path → List (Item Known) → Type 0
  Covered ns fs xs = AllByRecursion (Covers ns fs) xs

  widened : (ns ms : List (Asked parts.Part)) (fs gs : List Path) → ((a : Asked parts.Part) → Among a ns → Among a ms) → ((s : Path) → Among s fs → Among s gs)
      → (x : Item Known) → Covers ns fs x → Covers ms gs x
  widened ns ms fs gs given there (asked a) h = record { among = given (seen_nodes p own a) h.among; types = h.types; wide = h.wide; means = h.means; differ = h.differ }
  widened ns ms fs gs given there (pointed q) h = (h.0, λ s k. there s (h.1 s k))

  all_widened : (ns ms : List (Asked parts.Part)) (fs gs : List Path) → ((a : Asked parts.Part) → Among a ns → Among a ms) → ((s : Path) → Among s fs → Among s gs)
      → (xs : List (Item Known)) → Covered ns fs xs → Covered ms gs xs
  all_widened ns ms fs gs given there xs h = each_so (Covers ns fs) (Covers ms gs) xs (widened ns ms fs gs given there) h

  -- what stands in a fragment, and what stands behind it
  both_covered : (ns ms : List (Asked parts.Part)) (fs gs hs : List Path) (left_out applied : Bool) (xs more : List (Item Known)) → hs ≡ fs ++ gs → (applied ≡ true → Covered ns fs xs) → Covered ms gs more
      → Covered (cond left_out [] (cond applied ns []) ++ ms) hs (cond left_out [] (cond applied xs []) ++ more)
  both_covered ns ms fs gs hs left_out applied xs more e inside after =
      each_append (Covers (cond left_out [] (cond applied ns []) ++ ms) hs) (cond left_out [] (cond applied xs [])) more (first left_out applied inside)
      (all_widened ms (cond left_out [] (cond applied ns []) ++ ms) gs hs (λ a h. among_right a (cond left_out [] (cond applied ns [])) ms h)
      (λ s h. subst (Among s) (sym e) (among_right s fs gs h)) more after)
    where
      first : (b c : Bool) → (c ≡ true → Covered ns fs xs) → Covered (cond b [] (cond c ns []) ++ ms) hs (cond b [] (cond c xs []))
      first true c h = tt
      first false false h = tt
      first false true h =
          all_widened ns (ns ++ ms) fs hs (λ a h. among_left a ns ms h) (λ s h. subst (Among s) (sym e) (among_left s fs gs h)) xs (h refl)

  abbrev given_by : Nodes → List (Asked parts.Part)
  given_by s = parts.gather_in p.defs T own s

  abbrev paths_in : (around : Text) → Nodes → List Path
  paths_in around s = paths (fields_of p.defs around s)

  module _ (sound : AreSound p.defs) (k : ℕ) (enters : (from : ℕ) → Text → List Directive → Nodes → Nodes) (enter : Entered) (scope : Scope) (env : Values) (means : Means own scope env)
      (whole : (from : ℕ) (over : Option Text) (s : Sels) → expansion k p scope from over s ≡ expansion_with enters p scope from over s)
      (entered : (u : Text) (us : List Text) (n : Text) (ds : List Directive) (from : ℕ) (around : Text) (rest : Nodes) (more : List (Item Known)) → Differ us → has_text us T ≡ true
      → has_text (possible p.defs u) T ≡ true → (is_object p.defs around ≡ true → T ≡ around) → Suited p.defs around u (enters from n ds rest)
      → (Suited p.defs around u rest → Covered (given_by rest) (paths_in around rest) more)
      → Covered (given_by (enters from n ds rest)) (paths_in around (enters from n ds rest)) (cond (is_left_out own (printed_conditions scope ds)) [] (enter u us n ds) ++ more)) where
    abbrev read : (from : ℕ) → (over : Option Text) → (type : Text) → (types : List Text) → Sels → List (Item Known)
    read from over u us s = gather_with enter p own T k scope env from over u us s

    abbrev expanded : (from : ℕ) → (over : Option Text) → Sels → Nodes
    expanded from over s = expansion_with enters p scope from over s

    covered_with : (from : ℕ) (over : Option Text) (around u : Text) (us : List Text) (s : Sels) → Differ us → has_text us T ≡ true → has_text (possible p.defs u) T ≡ true
        → (is_object p.defs around ≡ true → T ≡ around) → Suited p.defs around u (expanded from over s)
        → Covered (given_by (expanded from over s)) (paths_in around (expanded from over s)) (read from over u us s)
    covered_with from over around u us sels.end differ has there alone suited = tt
    covered_with from over around u us (sels.field a n xs ds s rest) differ has there alone suited =
        let inner : ℕ = from + head_nodes a + arguments_nodes xs + directives_nodes ds in
        let next : ℕ = inner + selections_nodes s in
        let of : Ty = type_or (field_type p.defs over n) in
        let new : Nodes = additions p.defs (is_some (connection_among ds)) (base_of of) s (p.place from) in
        let subs : Nodes = nodes_append (expanded inner (below p.defs over n) s) new in
        let it : Asked parts.Part = record {
          ask = ask_of_node p.defs T own (response_key a n) n (substitute_in scope xs) (connection_among ds);
          part = parts.child p.defs own of subs;
        } in
        let ns : List (Asked parts.Part) = given_by (expanded from over (sels.field a n xs ds s rest)) in
        let fs : List Path = paths_in around (expanded from over (sels.field a n xs ds s rest)) in
        let own_field : Field = field_of p.defs around (response_key a n) n (substitute_in scope xs) of (p.place from) in
        each_append (Covers ns fs) (cond (is_left_out own (printed_directives scope ds)) [] (known_field p own T k scope env from over a n xs ds s ∷ [])) (read next over u us rest)
        (first (is_left_out own (printed_directives scope ds)) (known_below p T k scope env from over a n xs ds s) it (given_by (expanded next over rest)) fs
        (λ i. record {
          ask = it.ask;
          part = record {
            set = record { environment = own; nodes = nodes_append (sym (whole inner (below p.defs over n) s) i) new };
            types = it.part.types;
            around = base_of of;
            type = it.part.type;
          };
        })
        refl (λ U h. types_there p.defs sound (base_of of) U (below_within p.defs T n (substitute_in scope xs) (connection_among ds) of (suited.0 T there) U h)) means (differ_at p.defs (base_of of)))
        (all_widened (given_by (expanded next over rest)) ns (paths_in around (expanded next over rest)) fs
        (λ x h. among_right x (cond (is_left_out own (printed_directives scope ds)) [] (it ∷ [])) (given_by (expanded next over rest)) h)
        (λ x h. inr (among_right x (map (under own_field) (paths (fields_of p.defs (base_of of) subs))) (paths_in around (expanded next over rest)) h))
        (read next over u us rest) (covered_with next over around u us rest differ has there alone suited.2))
      where
        first : (b : Bool) (x : Known) (it : Asked parts.Part) (ms : List (Asked parts.Part)) (fs : List Path) → it ≡ record { ask = it.ask; part = as_nodes p own x } → x.met ≡ types_of it.ask.form → ((U : Text) → has_text (types_of it.ask.form) U ≡ true → has_text x.types U ≡ true)
            → Means own x.scope x.part.environment → Differ x.types → Covered (cond b [] (it ∷ []) ++ ms) fs (cond b [] (asked (record { ask = it.ask; part = x }) ∷ []))
        first true x it ms fs is types w m d = tt
        first false x it ms fs is types w m d = (record { among = inl is; types = types; wide = w; means = m; differ = d }, tt)
    covered_with from over around u us (sels.spread n ds rest) differ has there alone suited =
        let next : ℕ = from + 2 + directives_nodes ds in
        entered u us n ds from around (expanded next over rest) (read next over u us rest) differ has there alone suited
        (λ later. covered_with next over around u us rest differ has there alone later)
    covered_with from over around u us (sels.inline o ds s rest) differ has there alone suited =
        let inner : ℕ = from + 1 + optional_name_nodes o + directives_nodes ds in
        let next : ℕ = inner + selections_nodes s in
        let vs : List Text = types_inside p.defs us o in
        both_covered (given_by (expanded inner (condition_or over o) s)) (given_by (expanded next over rest)) (paths_in (on_or around o) (expanded inner (condition_or over o) s))
        (paths_in around (expanded next over rest)) (paths_in around (expanded from over (sels.inline o ds s rest))) (is_left_out own (printed_directives scope ds)) (applies p.defs o T)
        (read inner (condition_or over o) (type_inside p.defs u o) vs s) (read next over u us rest)
        (paths_before p.defs (on_or around o) (expanded inner (condition_or over o) s) (fields_of p.defs around (expanded next over rest)))
        (λ e. covered_with inner (condition_or over o) (on_or around o) (type_inside p.defs u o) vs s (differ_inside p.defs us o differ) (has_inside p.defs us o T has e)
        (inside_type p.defs u o T there e) (inside_alone p.defs sound around o T alone e) suited.0)
        (covered_with next over around u us rest differ has there alone suited.1)

  -- ---- spreads

  abbrev read_in : (spreads : ℕ) → Known → List (Item Known)
  read_in k x = gather_in k p own T x.scope x.part.environment x.from x.over x.type x.types x.part.selections

  none_covered : (b : Bool) (ns : List (Asked parts.Part)) (fs : List Path) (more : List (Item Known)) → Covered ns fs more → Covered ns fs (cond b [] [] ++ more)
  none_covered true ns fs more h = h
  none_covered false ns fs more h = h

  module _ (sound : AreSound p.defs) (k : ℕ) (scope : Scope) (env : Values) (means : Means own scope env) (u : Text) (us : List Text) (ds : List Directive) (differ : Differ us)
      (has : has_text us T ≡ true) (there : has_text (possible p.defs u) T ≡ true) where
    abbrev inside : FragmentAt → Known
    inside f = known_inside p own k scope env u us ds f

    -- a pointer's body stands where its spread does
    body_stands : (f : FragmentAt) → applies p.defs (Some f.on.name) T ≡ true → Suited p.defs f.on.name (inside f).type (nodes_inside k p scope ds f) → Stands p own T (inside f)
    body_stands f e suited = record {
      means = means_inside own env scope means ds f;
      differ = differ_inside p.defs us (Some f.on.name) differ;
      here = has_inside p.defs us (Some f.on.name) T has e;
      met = has_inside p.defs us (Some f.on.name) T has e;
      holds = record {
        suited = subst (Suited p.defs f.on.name (inside f).type) (sym (nodes_append-end (nodes_inside k p scope ds f))) suited;
        differ = differ_inside p.defs us (Some f.on.name) differ;
        here = has_inside p.defs us (Some f.on.name) T has e;
        there = inside_type p.defs u (Some f.on.name) T there e;
        alone = λ o. sound.alone f.on.name T o e;
      };
    }

    spread_covered : (f : FragmentAt) → applies p.defs (Some f.on.name) T ≡ true → Suited p.defs f.on.name (inside f).type (nodes_inside k p scope ds f)
        → Covered (given_by (nodes_inside k p scope ds f)) (paths_in f.on.name (nodes_inside k p scope ds f)) (read_in k (inside f)) → (b : Bool)
        → Covered (given_by (nodes_inside k p scope ds f)) (paths_in f.on.name (nodes_inside k p scope ds f)) (cond b (read_in k (inside f)) (known_pointer p own k scope env u us ds f ∷ []))
    spread_covered f e suited deeper true = deeper
    spread_covered f e suited deeper false =
        ((body_stands f e suited, λ s h. subst (λ (z : Nodes). Among s (paths_in f.on.name z)) (nodes_append-end (nodes_inside k p scope ds f)) h), tt)

    found_covered : ((f : FragmentAt) → applies p.defs (Some f.on.name) T ≡ true → Suited p.defs f.on.name (inside f).type (nodes_inside k p scope ds f)
        → Covered (given_by (nodes_inside k p scope ds f)) (paths_in f.on.name (nodes_inside k p scope ds f)) (read_in k (inside f)))
        → (o : Option FragmentAt) (from : ℕ) (around : Text) (rest : Nodes) (more : List (Item Known)) → Suited p.defs around u (enter_with (nodes_inside k p scope ds) p scope from o ds rest)
        → (Suited p.defs around u rest → Covered (given_by rest) (paths_in around rest) more)
        → Covered (given_by (enter_with (nodes_inside k p scope ds) p scope from o ds rest)) (paths_in around (enter_with (nodes_inside k p scope ds) p scope from o ds rest))
        (cond (is_left_out own (printed_conditions scope ds)) [] (known_at k p own T scope env u us ds o) ++ more)
    found_covered deeper None from around rest more suited after = none_covered (is_left_out own (printed_conditions scope ds)) (given_by rest) (paths_in around rest) more (after suited)
    found_covered deeper (Some f) from around rest more suited after =
        let within : Nodes = nodes_inside k p scope ds f in
        both_covered (given_by within) (given_by rest) (paths_in f.on.name within) (paths_in around rest)
        (paths_in around (enter_with (nodes_inside k p scope ds) p scope from (Some f) ds rest)) (is_left_out own (printed_conditions scope ds)) (applies p.defs (Some f.on.name) T)
        (known_spread (read_in k) p own k scope env u us ds f) more (paths_before p.defs f.on.name within (fields_of p.defs around rest))
        (λ e. spread_covered f e suited.0 (deeper f e suited.0) (is_open ds)) (after suited.1)

  all_covered : (sound : AreSound p.defs) (k : ℕ) (scope : Scope) (env : Values) → Means own scope env → (from : ℕ) (over : Option Text) (around u : Text) (us : List Text) (s : Sels) → Differ us
      → has_text us T ≡ true → has_text (possible p.defs u) T ≡ true → (is_object p.defs around ≡ true → T ≡ around) → Suited p.defs around u (expansion k p scope from over s)
      → Covered (given_by (expansion k p scope from over s)) (paths_in around (expansion k p scope from over s)) (gather_in k p own T scope env from over u us s)
  all_covered sound zero scope env means =
      covered_with sound zero (λ from n ds rest. rest) not_entered scope env means (λ from over s. refl)
      (λ u us n ds from around rest more differ has there alone suited after. none_covered (is_left_out own (printed_conditions scope ds)) (given_by rest) (paths_in around rest) more (after suited))
  all_covered sound (suc k) scope env means =
      covered_with sound (suc k) (λ from n ds rest. enter_with (nodes_inside k p scope ds) p scope from (fragment_named p.fragments n) ds rest)
      (λ u us n ds. known_at k p own T scope env u us ds (fragment_named p.fragments n)) scope env means (λ from over s. refl)
      (λ u us n ds from around rest more differ has there alone suited after. found_covered sound k scope env means u us ds differ has there
      (λ f e fits. all_covered sound k (scope_at_spread scope ds f) (environment_inside own env ds f) (means_inside own env scope means ds f) (selections_from f) (Some f.on.name) f.on.name
      (known_inside p own k scope env u us ds f).type (known_inside p own k scope env u us ds f).types f.selections (differ_inside p.defs us (Some f.on.name) differ)
      (has_inside p.defs us (Some f.on.name) T has e) (inside_type p.defs u (Some f.on.name) T there e) (λ o. sound.alone f.on.name T o e) fits)
      (fragment_named p.fragments n) from around rest more suited after)

  -- what selections give is covered by what they become
  pub items_covered : AreSound p.defs → (x : Known) → Stands p own T x
      → Covered (parts.gather p.defs T (as_nodes p own x)) (paths (fields p.defs (as_nodes p own x))) (gather p own T x)
  items_covered sound x h =
      let within : Nodes = expansion x.part.spreads p x.scope x.from x.over x.part.selections in
      all_widened (given_by within) (given_by (nodes_append within x.added)) (paths_in x.around within) (paths_in x.around (nodes_append within x.added))
      (λ a k. subst (Among a) (sym (gathered_append p.defs T own within x.added)) (among_left a (given_by within) (given_by x.added) k))
      (λ s k. subst (Among s) (sym (paths_append p.defs x.around within x.added)) (among_left s (paths_in x.around within) (paths_in x.around x.added) k))
      (gather p own T x)
      (all_covered sound x.part.spreads x.scope x.part.environment h.means x.from x.over x.around x.type x.types x.part.selections h.differ h.here h.holds.there h.holds.alone
      (suited_before p.defs x.around x.type within x.added h.holds.suited))
