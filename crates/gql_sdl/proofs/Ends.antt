-- Each state of the machine of schemas can be ended.
use Rattle.std.proofs.Common.{◌≡◌, ℕ, Bool, true, false, List, [], ◌∷◌, ◌++◌, codes, Option, Some, None, Ok, refl, ap, ◌∙◌}
use Rattle.gql_syntax.specs.gql_lex.Toks as tok
use Rattle.gql_syntax.specs.gql_lex.Toks.{Tok}
use Rattle.gql_syntax.specs.gql_ast.Ty as ty
use Rattle.gql_syntax.specs.gql_ast.Ty.{Ty}
use Rattle.gql_syntax.specs.gql_ast.declared.directive.Directive.{Directive}
use Rattle.gql_syntax.specs.gql_ast.declared.document.Kind.{Kind}
use Rattle.gql_syntax.specs.gql_ast.declared.document.Kind.TheVariants as K
use Rattle.gql_syntax.specs.gql_ast.declared.location.Location.{Location}
use Rattle.gql_syntax.specs.gql_ast.declared.location.Location.TheVariants as L
use Rattle.gql_syntax.specs.gql_ast.declared.schema.Root.{Root}
use Rattle.gql_syntax.specs.gql_ast.declared.type_tree.TypeTree.{TypeTree}
use Rattle.gql_syntax.specs.gql_ast.declared.value.ValueTree.{ValueTree}
use Rattle.gql_syntax.proofs.Forms.{AreToks, toks-append}
use Rattle.gql_syntax.proofs.Laws.{reach, reach_from, CanEnd}
use Rattle.gql_syntax.proofs.Outcomes.{can_end_before}
use Rattle.gql_syntax.specs.Machine.{Directing, further, at_name, Reading, Typing}
use Rattle.gql_syntax.proofs.DirectiveLaws.{IsPassed, directives_end, directives_end-form, directives_ends}
use Rattle.gql_syntax.proofs.Standing.{directives_on, type_on, value_on}
use Rattle.gql_syntax.proofs.TypeLaws.{type_end, type_end-form, type_ends}
use Rattle.gql_syntax.proofs.ValueLaws.{value_end, value_end-form, value_ends}
use Rattle.gql_syntax.specs.Built.{type_tree, value_tree}
use Rattle.gql_sdl.specs.Machine.{Titled, a_scalar, with_fields, a_union, an_enum, an_input, Front, Fields, OpenField, Inputs, of_field, of_directive, of_object, TypedInput, ArguedField, Typed, input_type, field_type, Owner, on_schema, on_scalar, on_fielded, on_union, on_enum, on_object, on_input, on_field, on_value, Listing, implementing, uniting, locating, State, head, title, entitled, directive_sign, directive_title, directive_arguments, directive_on, listing, listing_led, listing_more, listing_next, roots, root_colon, root_name, fields, field_arguments, field_colon, inputs, input_colon, input_default, enum_values, in_directives, in_type, in_value, front_then, heading_then, field_then, input_then, value_then, directives_of, close, after_inputs, after_directives, typed_state, after_type, behind_default, listing_name, front_ends, advance, finish}
use Rattle.gql_sdl.specs.Schemas.{Description, WrittenInput, WrittenField, Written, scalar, union, enum, input, schema, Described}
use Rattle.gql_sdl.proofs.States.{machine}

front_ends-then : (before : List Described) (d : Described) → front_ends (before ++ d ∷ []) None ≡ Some (before ++ d ∷ [])
front_ends-then [] d = refl
front_ends-then (b ∷ before) d = refl

closed-then : {A : Type 0} (before : List A) (a : A) (to : State) → close (before ++ a ∷ []) None to ≡ Ok to
closed-then [] a to = refl
closed-then (b ∷ before) a to = refl

module _ (limit : ℕ) where
  abbrev pub Ends : State → Type 0
  Ends s = CanEnd machine limit s

  ends_here : (s : State) (v : List Described) → finish s ≡ Some v → Ends s
  ends_here s v e = record { behind = []; forms = tt; tree = v; finishes = record { last = s; reached = refl; finished = e } }

  -- behind these tokens
  behind_tokens : (s next : State) (ts : List Tok) → AreToks ts → reach (advance limit) s ts ≡ Ok next → Ends next → Ends s
  behind_tokens s next ts f e c = can_end_before machine limit s next ts f e c

  whole-ends : (f : Front) (w : Written) → Ends (head (front_then f w))
  whole-ends f w = ends_here (head (front_then f w)) _ (front_ends-then f.before _)

  -- the same where the last token closes what is not empty
  behind_close : {A : Type 0} (s to : State) (ts : List Tok) → AreToks ts → (before : List A) (a : A)
      → reach (advance limit) s ts ≡ reach_from (advance limit) (close (before ++ a ∷ []) None to) [] → Ends to → Ends s
  behind_close s to ts f before a e c = behind_tokens s to ts f (e ∙ ap (λ r. reach_from (advance limit) r []) (closed-then before a to)) c

  pub head-ends : (f : Front) → Ends (head f)
  head-ends f =
      behind_tokens (head f) (directives_of (on_scalar f (codes "a"))) (tok.name (codes "scalar") ∷ tok.name (codes "a") ∷ []) (refl, (refl, tt)) refl
      (ends_here (directives_of (on_scalar f (codes "a"))) _ (front_ends-then f.before _))

  -- ---- members

  argued-ends : (a : ArguedField) → Ends (field_colon a)
  argued-ends a =
      behind_close (field_colon a) (head (heading_then a.field.fields.heading a.field.fields.directives (field_then a (type_tree (ty.named (codes "a"))) [])))
      (tok.colon ∷ tok.name (codes "a") ∷ tok.close_brace ∷ []) (tt, (refl, (tt, tt))) a.field.before _ refl (head-ends _)

  field_arguments-ends : (f : OpenField) → Ends (field_arguments f)
  field_arguments-ends f =
      behind_close (field_arguments f)
      (head (heading_then f.fields.heading f.fields.directives (field_then (record { field = f; arguments = [] }) (type_tree (ty.named (codes "a"))) [])))
      (tok.colon ∷ tok.name (codes "a") ∷ tok.close_brace ∷ []) (tt, (refl, (tt, tt))) f.before _ refl (head-ends _)

  fields-ends : (f : Fields) (fs : List WrittenField) (d : Description) → Ends (fields f fs d)
  fields-ends f fs d =
      behind_tokens (fields f fs d) (field_arguments (record { fields = f; before = fs; description = d; title = codes "a" })) (tok.name (codes "a") ∷ []) (refl, tt) refl
      (field_arguments-ends (record { fields = f; before = fs; description = d; title = codes "a" }))

  locating-ends : (leading : Bool) (f : Front) (n : List ℕ) (ws : List WrittenInput) (r : Bool) (ls : List Location) → Ends (listing_more leading (locating f n ws r ls))
  locating-ends leading f n ws r ls = ends_here (listing_more leading (locating f n ws r ls)) _ (front_ends-then f.before _)

  directive_on-ends : (f : Front) (n : List ℕ) (ws : List WrittenInput) (r : Bool) → Ends (directive_on f n ws r)
  directive_on-ends f n ws true =
      behind_tokens (directive_on f n ws true) (listing_more false (locating f n ws true (L.Field ∷ []))) (tok.name (codes "on") ∷ tok.name (codes "FIELD") ∷ []) (refl, (refl, tt)) refl
      (locating-ends false f n ws true (L.Field ∷ []))
  directive_on-ends f n ws false =
      behind_tokens (directive_on f n ws false) (listing_more false (locating f n ws false (L.Field ∷ []))) (tok.name (codes "on") ∷ tok.name (codes "FIELD") ∷ []) (refl, (refl, tt)) refl
      (locating-ends false f n ws false (L.Field ∷ []))

  after_inputs-ends : (i : Inputs) (ws : List WrittenInput) → Ends (after_inputs i ws)
  after_inputs-ends (of_field f) ws = argued-ends (record { field = f; arguments = ws })
  after_inputs-ends (of_directive f n) ws = directive_on-ends f n ws false
  after_inputs-ends (of_object f n ds) ws = head-ends (front_then f (input n ds ws))

  abbrev close_of : Inputs → Tok
  close_of (of_field f) = tok.close_paren
  close_of (of_directive f n) = tok.close_paren
  close_of (of_object f n ds) = tok.close_brace

  input_colon-ends : (i : Inputs) (ws : List WrittenInput) (d : Description) (n : List ℕ)
      → Ends (input_colon (record { inputs = i; before = ws; description = d; title = n }))
  input_colon-ends (of_field f) ws d n =
      behind_close _ (after_inputs (of_field f) _) (tok.colon ∷ tok.name (codes "a") ∷ tok.close_paren ∷ []) (tt, (refl, (tt, tt))) ws _ refl (after_inputs-ends (of_field f) _)
  input_colon-ends (of_directive f m) ws d n =
      behind_close _ (after_inputs (of_directive f m) _) (tok.colon ∷ tok.name (codes "a") ∷ tok.close_paren ∷ []) (tt, (refl, (tt, tt))) ws _ refl (after_inputs-ends (of_directive f m) _)
  input_colon-ends (of_object f m ds) ws d n =
      behind_close _ (after_inputs (of_object f m ds) _) (tok.colon ∷ tok.name (codes "a") ∷ tok.close_brace ∷ []) (tt, (refl, (tt, tt))) ws _ refl (after_inputs-ends (of_object f m ds) _)

  input_default-ends : (i : Inputs) (ws : List WrittenInput) (d : Description) (n : List ℕ) (u : TypeTree)
      → Ends (input_default (record { input = record { inputs = i; before = ws; description = d; title = n }; of = u }))
  input_default-ends (of_field f) ws d n u = behind_close _ (after_inputs (of_field f) _) (tok.close_paren ∷ []) (tt, tt) ws _ refl (after_inputs-ends (of_field f) _)
  input_default-ends (of_directive f m) ws d n u = behind_close _ (after_inputs (of_directive f m) _) (tok.close_paren ∷ []) (tt, tt) ws _ refl (after_inputs-ends (of_directive f m) _)
  input_default-ends (of_object f m ds) ws d n u = behind_close _ (after_inputs (of_object f m ds) _) (tok.close_brace ∷ []) (tt, tt) ws _ refl (after_inputs-ends (of_object f m ds) _)

  roots-end : (s : State) (f : Front) (ds : List Directive) (rs : List Root) (k : Kind) (ts : List Tok) → AreToks ts
      → reach (advance limit) s ts ≡ reach (advance limit) (root_name f ds rs k) (tok.name (codes "a") ∷ tok.close_brace ∷ []) → Ends s
  roots-end s f ds rs k ts h e =
      behind_close s (head (front_then f (schema ds (rs ++ record { kind = k; name = codes "a" } ∷ [])))) ts h rs (record { kind = k; name = codes "a" }) e (head-ends _)

  -- ---- where directives have ended

  -- with some token that is no `@` and no `(`, and those behind it
  record PassedEnds (o : Owner) : Type 0 where
    token : Tok
    behind : List Tok
    forms : AreToks (token ∷ behind)
    passed : IsPassed token
    next : List Directive → State
    comes : (ds : List Directive) → reach_from (advance limit) (after_directives o ds token) behind ≡ Ok (next ds)
    ends : (ds : List Directive) → Ends (next ds)

  -- where a definition is whole, another one may follow
  whole-passed : (o : Owner) (front : List Directive → Front)
      → ((ds : List Directive) → after_directives o ds (tok.name (codes "scalar")) ≡ Ok (title (front ds) a_scalar)) → PassedEnds o
  whole-passed o front e = record {
    token = tok.name (codes "scalar");
    behind = [];
    forms = (refl, tt);
    passed = tt;
    next = λ ds. title (front ds) a_scalar;
    comes = λ ds. ap (λ r. reach_from (advance limit) r []) (e ds);
    ends = λ ds. behind_tokens (title (front ds) a_scalar) (directives_of (on_scalar (front ds) (codes "a"))) (tok.name (codes "a") ∷ []) (refl, tt) refl
        (ends_here (directives_of (on_scalar (front ds) (codes "a"))) _ (front_ends-then (front ds).before _));
  }

  input-passed : (i : Inputs) (ws : List WrittenInput) (d : Description) (n : List ℕ) (u : TypeTree) (v : Option ValueTree)
      → PassedEnds (on_input (record { input = record { inputs = i; before = ws; description = d; title = n }; of = u }) v)
  input-passed (of_field f) ws d n u v = record {
    token = tok.close_paren;
    behind = [];
    forms = (tt, tt);
    passed = tt;
    next = λ ds. after_inputs (of_field f) (input_then (record { input = record { inputs = of_field f; before = ws; description = d; title = n }; of = u }) v ds);
    comes = λ ds. ap (λ r. reach_from (advance limit) r []) (closed-then ws _ _);
    ends = λ ds. after_inputs-ends (of_field f) _;
  }
  input-passed (of_directive f m) ws d n u v = record {
    token = tok.close_paren;
    behind = [];
    forms = (tt, tt);
    passed = tt;
    next = λ ds. after_inputs (of_directive f m) (input_then (record { input = record { inputs = of_directive f m; before = ws; description = d; title = n }; of = u }) v ds);
    comes = λ ds. ap (λ r. reach_from (advance limit) r []) (closed-then ws _ _);
    ends = λ ds. after_inputs-ends (of_directive f m) _;
  }
  input-passed (of_object f m es) ws d n u v = record {
    token = tok.close_brace;
    behind = [];
    forms = (tt, tt);
    passed = tt;
    next = λ ds. after_inputs (of_object f m es) (input_then (record { input = record { inputs = of_object f m es; before = ws; description = d; title = n }; of = u }) v ds);
    comes = λ ds. ap (λ r. reach_from (advance limit) r []) (closed-then ws _ _);
    ends = λ ds. after_inputs-ends (of_object f m es) _;
  }

  passed-ends : (o : Owner) → PassedEnds o
  passed-ends (on_schema f) = record {
    token = tok.open_brace;
    behind = tok.name (codes "query") ∷ [];
    forms = (tt, (refl, tt));
    passed = tt;
    next = λ ds. root_colon f ds [] K.Query;
    comes = λ ds. refl;
    ends = λ ds. roots-end (root_colon f ds [] K.Query) f ds [] K.Query (tok.colon ∷ tok.name (codes "a") ∷ tok.close_brace ∷ []) (tt, (refl, (tt, tt))) refl;
  }
  passed-ends (on_scalar f n) = whole-passed (on_scalar f n) (λ ds. front_then f (scalar n ds)) (λ ds. refl)
  passed-ends (on_fielded h) = whole-passed (on_fielded h) (λ ds. heading_then h ds []) (λ ds. refl)
  passed-ends (on_union f n) = whole-passed (on_union f n) (λ ds. front_then f (union n ds false [])) (λ ds. refl)
  passed-ends (on_enum f n) = whole-passed (on_enum f n) (λ ds. front_then f (enum n ds [])) (λ ds. refl)
  passed-ends (on_object f n) = whole-passed (on_object f n) (λ ds. front_then f (input n ds [])) (λ ds. refl)
  passed-ends (on_input i v) = input-passed i.input.inputs i.input.before i.input.description i.input.title i.of v
  passed-ends (on_field a u) = record {
    token = tok.close_brace;
    behind = [];
    forms = (tt, tt);
    passed = tt;
    next = λ ds. head (heading_then a.field.fields.heading a.field.fields.directives (field_then a u ds));
    comes = λ ds. ap (λ r. reach_from (advance limit) r []) (closed-then a.field.before _ _);
    ends = λ ds. head-ends _;
  }
  passed-ends (on_value v) = record {
    token = tok.close_brace;
    behind = [];
    forms = (tt, tt);
    passed = tt;
    next = λ ds. head (front_then v.values.front (enum v.values.title v.values.directives (value_then v ds)));
    comes = λ ds. ap (λ r. reach_from (advance limit) r []) (closed-then v.before _ _);
    ends = λ ds. head-ends _;
  }

  directing-ends : (d : Directing Owner) → Ends (in_directives d)
  directing-ends d =
      let p : PassedEnds (directives_on d) = passed-ends (directives_on d) in
      let h = directives_ends limit in_directives after_directives (advance limit) (λ r t. refl) d p.token p.behind p.passed in
      behind_tokens (in_directives d) (p.next h.0) (directives_end d ++ p.token ∷ p.behind)
      (toks-append (directives_end d) (p.token ∷ p.behind) (directives_end-form d) p.forms) (h.1 ∙ p.comes h.0) (p.ends h.0)

  value-ends : (r : Reading TypedInput) → Ends (in_value r)
  value-ends r =
      let h = value_ends in_value behind_default (advance limit) (λ r t. refl) r in
      behind_tokens (in_value r) (behind_default (value_on r) h.0) (value_end r) (value_end-form r) h.1 (directing-ends (further true [] (on_input (value_on r) (Some (value_tree h.0)))))

  -- a directive may stand behind a type
  signed : (y : Typed) (t : Ty) → (next : State) × (reach_from (advance limit) (after_type limit y t tok.at_sign) [] ≡ Ok next) × Ends next
  signed (input_type i) t = (_, refl, directing-ends (at_name true [] (on_input (record { input = i; of = type_tree t }) None)))
  signed (field_type a) t = (_, refl, directing-ends (at_name true [] (on_field a (type_tree t))))

  type-ends : (y : Typing Typed) → Ends (in_type y)
  type-ends y =
      let h = type_ends in_type typed_state (after_type limit) (advance limit) (λ r x. refl) y tok.at_sign [] tt in
      let n : (next : State) × (reach_from (advance limit) (after_type limit (type_on y) h.0 tok.at_sign) [] ≡ Ok next) × Ends next = signed (type_on y) h.0 in
      behind_tokens (in_type y) n.0 (type_end y ++ tok.at_sign ∷ []) (toks-append (type_end y) (tok.at_sign ∷ []) (type_end-form y) (tt, tt)) (h.1 ∙ n.1) n.2

  -- ---- lists with separators, and the rest

  listing_more-ends : (leading : Bool) (l : Listing) → Ends (listing_more leading l)
  listing_more-ends leading (implementing f k n ns) = ends_here (listing_more leading (implementing f k n ns)) _ (front_ends-then f.before _)
  listing_more-ends leading (uniting f n ds ns) = ends_here (listing_more leading (uniting f n ds ns)) _ (front_ends-then f.before _)
  listing_more-ends leading (locating f n ws r ls) = locating-ends leading f n ws r ls

  name-ends : (s : State) (leading : Bool) (l : Listing)
      → (reach (advance limit) s (tok.name (codes "FIELD") ∷ []) ≡ reach_from (advance limit) (listing_name leading l (tok.name (codes "FIELD"))) []) → Ends s
  name-ends s leading (implementing f k n ns) e =
      behind_tokens s (listing_more leading (implementing f k n (ns ++ codes "FIELD" ∷ []))) (tok.name (codes "FIELD") ∷ []) (refl, tt) e (listing_more-ends leading _)
  name-ends s leading (uniting f n ds ns) e =
      behind_tokens s (listing_more leading (uniting f n ds (ns ++ codes "FIELD" ∷ []))) (tok.name (codes "FIELD") ∷ []) (refl, tt) e (listing_more-ends leading _)
  name-ends s leading (locating f n ws r ls) e =
      behind_tokens s (listing_more leading (locating f n ws r (ls ++ L.Field ∷ []))) (tok.name (codes "FIELD") ∷ []) (refl, tt) e (listing_more-ends leading _)

  listing-ends : (l : Listing) → Ends (listing l)
  listing-ends (implementing f k n ns) = name-ends _ false (implementing f k n ns) refl
  listing-ends (uniting f n ds ns) = name-ends _ false (uniting f n ds ns) refl
  listing-ends (locating f n ws r ls) = name-ends _ false (locating f n ws r ls) refl

  entitle-ends : (f : Front) (k : Titled) → Ends (title f k)
  entitle-ends f a_scalar = behind_tokens (title f a_scalar) _ (tok.name (codes "a") ∷ []) (refl, tt) refl (directing-ends (further true [] (on_scalar f (codes "a"))))
  entitle-ends f (with_fields k) =
      behind_tokens (title f (with_fields k)) (entitled f k (codes "a")) (tok.name (codes "a") ∷ []) (refl, tt) refl (ends_here (entitled f k (codes "a")) _ (front_ends-then f.before _))
  entitle-ends f a_union = behind_tokens (title f a_union) _ (tok.name (codes "a") ∷ []) (refl, tt) refl (directing-ends (further true [] (on_union f (codes "a"))))
  entitle-ends f an_enum = behind_tokens (title f an_enum) _ (tok.name (codes "a") ∷ []) (refl, tt) refl (directing-ends (further true [] (on_enum f (codes "a"))))
  entitle-ends f an_input = behind_tokens (title f an_input) _ (tok.name (codes "a") ∷ []) (refl, tt) refl (directing-ends (further true [] (on_object f (codes "a"))))

  directive_arguments-ends : (f : Front) (n : List ℕ) → Ends (directive_arguments f n)
  directive_arguments-ends f n =
      behind_tokens (directive_arguments f n) (listing_more false (locating f n [] false (L.Field ∷ []))) (tok.name (codes "on") ∷ tok.name (codes "FIELD") ∷ []) (refl, (refl, tt)) refl
      (locating-ends false f n [] false (L.Field ∷ []))

  -- each state, whatever stands in it
  pub state-ends : (s : State) → Ends s
  state-ends (head f) = head-ends f
  state-ends (title f k) = entitle-ends f k
  state-ends (entitled f k n) = ends_here (entitled f k n) _ (front_ends-then f.before _)
  state-ends (directive_sign f) = behind_tokens (directive_sign f) (directive_arguments f (codes "a")) (tok.at_sign ∷ tok.name (codes "a") ∷ []) (tt, (refl, tt)) refl (directive_arguments-ends f (codes "a"))
  state-ends (directive_title f) = behind_tokens (directive_title f) (directive_arguments f (codes "a")) (tok.name (codes "a") ∷ []) (refl, tt) refl (directive_arguments-ends f (codes "a"))
  state-ends (directive_arguments f n) = directive_arguments-ends f n
  state-ends (directive_on f n ws r) = directive_on-ends f n ws r
  state-ends (listing l) = listing-ends l
  state-ends (listing_led l) = name-ends (listing_led l) true l refl
  state-ends (listing_more leading l) = listing_more-ends leading l
  state-ends (listing_next leading l) = name-ends (listing_next leading l) leading l refl
  state-ends (roots f ds rs) =
      roots-end (roots f ds rs) f ds rs K.Query (tok.name (codes "query") ∷ tok.colon ∷ tok.name (codes "a") ∷ tok.close_brace ∷ [])
      (refl, (tt, (refl, (tt, tt)))) refl
  state-ends (root_colon f ds rs k) = roots-end (root_colon f ds rs k) f ds rs k (tok.colon ∷ tok.name (codes "a") ∷ tok.close_brace ∷ []) (tt, (refl, (tt, tt))) refl
  state-ends (root_name f ds rs k) = roots-end (root_name f ds rs k) f ds rs k (tok.name (codes "a") ∷ tok.close_brace ∷ []) (refl, (tt, tt)) refl
  state-ends (fields f fs d) = fields-ends f fs d
  state-ends (field_arguments f) = field_arguments-ends f
  state-ends (field_colon a) = argued-ends a
  state-ends (inputs i ws d) =
      behind_tokens (inputs i ws d) (input_colon (record { inputs = i; before = ws; description = d; title = codes "a" })) (tok.name (codes "a") ∷ []) (refl, tt) refl
      (input_colon-ends i ws d (codes "a"))
  state-ends (input_colon i) = input_colon-ends i.inputs i.before i.description i.title
  state-ends (input_default i) = input_default-ends i.input.inputs i.input.before i.input.description i.input.title i.of
  state-ends (enum_values v vs d) =
      behind_tokens (enum_values v vs d) _ (tok.name (codes "a") ∷ []) (refl, tt) refl
      (directing-ends (further true [] (on_value (record { values = v; before = vs; description = d; title = codes "a" }))))
  state-ends (in_directives d) = directing-ends d
  state-ends (in_type y) = type-ends y
  state-ends (in_value r) = value-ends r
