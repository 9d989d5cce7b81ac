-- What has been read of fields, of values of enums, and of roots.
use Rattle.std.proofs.Common.{◌≡◌, ◌≤◌, ◌⊎◌, inl, inr, ℕ, true, false, cond, List, [], ◌∷◌, map, length, Option, Some, None, Result, Ok, Err, IfOk, IfErr, OnOk, refl, sym, ap, subst, ◌∙◌, arith}
use Rattle.gql_syntax.specs.gql_lex.Sources.{Source, ended, faulty, token}
use Rattle.gql_syntax.specs.gql_lex.Toks as tok
use Rattle.gql_syntax.specs.gql_lex.Toks.{Tok, punctuator_of, tok_of_piece}
use Rattle.gql_syntax.specs.gql_ast.TypeView.{ty_of}
use Rattle.gql_syntax.specs.gql_ast.declared.directive.Directive.{Directive}
use Rattle.gql_syntax.specs.gql_ast.declared.document.Kind.{Kind}
use Rattle.gql_syntax.specs.gql_ast.declared.member.FieldTree.{FieldTree}
use Rattle.gql_syntax.specs.gql_ast.declared.member.InputTree.{InputTree}
use Rattle.gql_syntax.specs.gql_ast.declared.member.EnumValue.{EnumValue}
use Rattle.gql_syntax.specs.gql_ast.declared.schema.Root.{Root}
use Rattle.gql_syntax.specs.gql_ast.declared.type_tree.TypeTree.{TypeTree}
use Rattle.gql_syntax.proofs.Tokens.{not_at, no_word}
use Rattle.gql_syntax.specs.Answers.{node_count, Misses, wrong_at, Tells}
use Rattle.gql_syntax.specs.Machine.{further, want_type, whole}
use Rattle.gql_syntax.specs.Nexts.{behind, is_at, word_of, is_text, next_is, next_word, next_is_text, Comes, stopped_at, token_count}
use Rattle.gql_syntax.specs.Parts.{directives_read, type_read}
use Rattle.gql_syntax.specs.Places.{Ahead, lay}
use Rattle.gql_syntax.specs.Run.{unexpected}
use Rattle.gql_syntax.specs.Spelling.{spell_type, spell_directives}
use Rattle.gql_syntax.specs.Texts.{nesting_limit}
use Rattle.gql_syntax.specs.Words.{kind_word}
use Rattle.gql_syntax.specs.declared.fault.Fault.{Fault}
use Rattle.gql_sdl.specs.Machine.{Front, Fields, OpenField, ArguedField, of_field, Values, OpenValue, Typed, field_type, Owner, on_field, on_value, State, fields, field_arguments, field_colon, enum_values, roots, root_colon, root_name, in_directives, in_type, directives_of, close, after_inputs, field_then, value_then, advance, finish, is_reserved, kind_of, open_root}
use Rattle.gql_sdl.specs.Reads.{run_on, Read, Fails, Reads, a_field, open_member, Named, name_member, spell_named, MayName, MayOpen, before_inputs, FieldsAt, fields_at, field_at, MayField, NoDirective, before_fields, behind_fields, ValuesAt, values_at, value_at, behind_value_name, before_values, behind_values, RootsOf, RootsAt, roots_at, root_at, unopened_roots, closed_roots}
use Rattle.gql_sdl.specs.Schemas.{Description, WrittenField, WrittenValue, NotEmpty, spell_argument_defs, spell_field, spell_fields, spell_fields_part, spell_enum_value, spell_enum_values, spell_enum_values_part, spell_roots, inputs_of, field_of}
use Rattle.gql_syntax.proofs.BuiltTrees.{type_tree-ty_of}
use Rattle.gql_sdl.proofs.Fronts.{fields-then, values-then, roots-then}
use Rattle.gql_sdl.proofs.Goings.{on-token, on-name, on-sign, alike, on-type, on-directives, fails-missed, fails-stopped, fails-behind, fails-type, fails-directives}
use Rattle.gql_sdl.proofs.InputLists.{closed-some}
use Rattle.gql_sdl.proofs.InputReads.{comes_text, not_text, behind-count}
use Rattle.gql_sdl.proofs.Loops.{ListOf, ListLaws}
use Rattle.gql_sdl.proofs.Spellings.{kind_of-kind, kind_of-word}

-- ---- fields

field_colon-stops : (a : ArguedField) (t : Tok) → is_at 58 t ≡ false → advance nesting_limit (field_colon a) t ≡ Err unexpected
field_colon-stops a tok.colon e = absurd (cc)
field_colon-stops a t e = refl

pub field-no_name : (a : Ahead) (f : Fault) → Fails MayName (λ k. open_member k None) a f → Fails MayField fields_at a f
field-no_name a f h =
    fails-behind MayField fields_at MayName (λ k. open_member k None) a a (λ (k : FieldsAt). a_field k.fields k.before) refl (λ k size z m. refl) (λ k m. m) f h

module _ (a b : Ahead) (n : List ℕ) (r : Read MayName (λ k. open_member k None) name_member spell_named (λ (w : Named). w.title) a b n) where
  abbrev pub open_field : FieldsAt → OpenField
  open_field k = record { fields = k.fields; before = k.before; description = r.written.description; title = n }

  to_arguments : (k : FieldsAt) (size : ℕ) → size ≡ length a.text → MayField k a.source → run_on size (fields_at k) a.source ≡ run_on size (field_arguments (open_field k)) b.source
  to_arguments k size e m =
      r.goes (a_field k.fields k.before) size e m
      ∙ ap (λ n. run_on size (field_arguments (record { fields = k.fields; before = k.before; description = r.written.description; title = n })) b.source) r.viewed

  pub field-no_arguments : (f : Fault) → Fails (MayOpen 40 41) before_inputs b f → Fails MayField fields_at a f
  field-no_arguments f h =
      fails-behind MayField fields_at (MayOpen 40 41) before_inputs a b (λ k. of_field (open_field k)) r.text to_arguments (λ k m. (refl, refl, tt)) f h

  module _ (c : Ahead) (args : List InputTree) (q : Read (MayOpen 40 41) before_inputs after_inputs (spell_argument_defs node_count) inputs_of b c args) where
    abbrev pub argued_field : FieldsAt → ArguedField
    argued_field k = record { field = open_field k; arguments = q.written }

    text_c : c.text ≡ a.text
    text_c = q.text ∙ r.text

    to_colon : (k : FieldsAt) (size : ℕ) → size ≡ length a.text → MayField k a.source → run_on size (fields_at k) a.source ≡ run_on size (field_colon (argued_field k)) c.source
    to_colon k size e m =
        to_arguments k size e m ∙ q.goes (of_field (open_field k)) size (e ∙ ap (λ (s : List ℕ). length s) (sym r.text)) (refl, refl, tt)

    pub field-no_colon : (f : Fault) → Misses f (next_is 58 c.source ≡ false) (stopped_at (length c.text) c.source) → Fails MayField fields_at a f
    field-no_colon f m =
        fails-behind MayField fields_at (λ (x : ArguedField) (s : Source). Unit {0}) (λ x. field_colon x) a c argued_field text_c to_colon (λ k m. tt) f
        (fails-missed (λ (x : ArguedField) (s : Source). Unit {0}) (λ x. field_colon x) c (next_is 58 c.source ≡ false) f m
        (λ x z miss. (refl, λ t d. field_colon-stops x t (not_at 58 c.source t d miss))))

    module _ (d : Ahead) (colon : next_is 58 c.source ≡ true) (s : d.source ≡ behind c.source) (t : d.text ≡ c.text) where
      text_d : d.text ≡ a.text
      text_d = t ∙ text_c

      to_type : (k : FieldsAt) (size : ℕ) → size ≡ length a.text → MayField k a.source
          → run_on size (fields_at k) a.source ≡ run_on size (in_type (want_type nesting_limit (whole (field_type (argued_field k))))) d.source
      to_type k size e m =
          to_colon k size e m
          ∙ on-sign size 58 (field_colon (argued_field k)) (in_type (want_type nesting_limit (whole (field_type (argued_field k))))) c.source colon refl
          ∙ ap (run_on size (in_type (want_type nesting_limit (whole (field_type (argued_field k)))))) (sym s)

      pub field-no_type : (f : Fault) → Tells f (type_read nesting_limit (length d.text) d.source) → Fails MayField fields_at a f
      field-no_type f h =
          fails-behind MayField fields_at (λ (y : Typed) (s : Source). Unit {0}) (λ y. in_type (want_type nesting_limit (whole y))) a d (λ k. field_type (argued_field k)) text_d to_type
          (λ k m. tt) f (fails-type d f h)

      module _ (e : Ahead) (of : TypeTree) (typed : type_read nesting_limit (length d.text) d.source ≡ Ok (ty_of of, e.source)) (u : e.text ≡ d.text) where
        text_e : e.text ≡ a.text
        text_e = u ∙ text_d

        to_directives : (k : FieldsAt) (size : ℕ) → size ≡ length a.text → MayField k a.source
            → run_on size (fields_at k) a.source ≡ run_on size (directives_of (on_field (argued_field k) of)) e.source
        to_directives k size z m =
            to_type k size z m
            ∙ on-type size (field_type (argued_field k)) d.source e.source (ty_of of)
            (subst (λ n. type_read nesting_limit n d.source ≡ Ok (ty_of of, e.source)) (ap (λ (s : List ℕ). length s) text_d ∙ sym z) typed)
            ∙ ap (λ t. run_on size (directives_of (on_field (argued_field k) t)) e.source) (type_tree-ty_of of)

        pub field-no_directives : (f : Fault) → Tells f (directives_read nesting_limit true (length e.text) e.source) → Fails MayField fields_at a f
        field-no_directives f h =
            fails-behind MayField fields_at (λ (o : Owner) (s : Source). Unit {0}) (λ o. directives_of o) a e (λ k. on_field (argued_field k) of) text_e to_directives (λ k m. tt) f
            (fails-directives e f h)

        pub field-read : (g : Ahead) (ds : List Directive) → directives_read nesting_limit true (length e.text) e.source ≡ Ok (ds, g.source) → g.text ≡ e.text → next_is 64 g.source ≡ false
            → ((ns : List ℕ) → lay (0 ∷ ns) c ≡ lay ns d) → ((ns : List ℕ) → lay (spell_type node_count (ty_of of) 0 0 ns) d ≡ lay ns e)
            → ((ns : List ℕ) → lay (spell_directives node_count ds ns) e ≡ lay ns g) → token_count g.source ≤ token_count a.source
            → Read MayField fields_at field_at (spell_field node_count) field_of a g (record { name = n; arguments = args; of = of; directives = ds })
        field-read g ds directed w last l1 l2 l3 fewer = record {
          written = record { description = r.written.description; name = n; arguments = q.written; of = of; directives = ds };
          viewed = ap (λ xs. record { name = n; arguments = xs; of = of; directives = ds }) q.viewed;
          goes = λ k size z m. to_directives k size z m
              ∙ on-directives size (on_field (argued_field k) of) e.source g.source ds
              (subst (λ n. directives_read nesting_limit true n e.source ≡ Ok (ds, g.source)) (ap (λ (s : List ℕ). length s) text_e ∙ sym z) directed)
              ∙ alike size (in_directives (further true ds (on_field (argued_field k) of))) (fields k.fields (field_then (argued_field k) of ds) None) g.source refl
              (λ t c. same k t (not_at 64 g.source t c last));
          nodes = λ ns. r.nodes (spell_argument_defs node_count q.written (0 ∷ spell_type node_count (ty_of of) 0 0 (spell_directives node_count ds ns)))
              ∙ q.nodes (0 ∷ spell_type node_count (ty_of of) 0 0 (spell_directives node_count ds ns))
              ∙ l1 (spell_type node_count (ty_of of) 0 0 (spell_directives node_count ds ns)) ∙ l2 (spell_directives node_count ds ns) ∙ l3 ns;
          taken = fewer;
          text = w ∙ text_e;
        }
          where
            same : (k : FieldsAt) (t : Tok) → is_at 64 t ≡ false
                → advance nesting_limit (in_directives (further true ds (on_field (argued_field k) of))) t ≡ advance nesting_limit (fields k.fields (field_then (argued_field k) of ds) None) t
            same k tok.at_sign e = absurd (cc)
            same k t e = refl

-- ---- lists of fields

abbrev pub fields_list : ListOf Fields FieldsAt WrittenField FieldTree
fields_list = record {
  May = NoDirective;
  unopened = before_fields;
  open_at = λ f fs. fields f fs None;
  close_at = behind_fields;
  opening = 123;
  closing = 125;
  spells = spell_fields node_count;
  whole = spell_fields_part node_count;
  kept = field_of;
  at_member = λ f fs. record { fields = f; before = fs };
  MayMember = MayField;
  from = fields_at;
  to = field_at;
  spell = spell_field node_count;
}

fields-whole : (fs : List WrittenField) (ns : List ℕ) → NotEmpty fs → spell_fields_part node_count fs ns ≡ 0 ∷ spell_fields node_count fs (0 ∷ ns)
fields-whole [] ns h = absurd h
fields-whole (f ∷ fs) ns h = refl

pub fields_laws : ListLaws fields_list
fields_laws = record {
  opens = λ f s m. refl;
  begins = λ f fs. refl;
  may_begin = λ f fs s there m n. n;
  goes_on = λ f fs w. refl;
  spells_then = λ fs w ns. fields-then node_count fs w ns;
  spells_none = λ ns. refl;
  whole_some = fields-whole;
  closes = λ f s fs m h. closed-some fs _ h;
  stops_closed = λ f s m. refl;
  unfinished = λ f fs. refl;
}

-- behind directives, where no list is opened
pub fields-absent : (s : Source) → next_is 123 s ≡ false → (f : Fields) (size : ℕ) → NoDirective f s → run_on size (before_fields f) s ≡ run_on size (behind_fields f []) s
fields-absent s n f size m = alike size (before_fields f) (behind_fields f []) s refl (λ t c. same t (not_at 123 s t c n) (not_at 64 s t c m))
  where
    same : (t : Tok) → is_at 123 t ≡ false → is_at 64 t ≡ false → advance nesting_limit (before_fields f) t ≡ advance nesting_limit (behind_fields f []) t
    same tok.open_brace e d = absurd (cc)
    same tok.at_sign e d = absurd (cc)
    same t e d = refl

-- ---- values of enums

value-stops : (k : ValuesAt) (t : Tok) → (word_of t ≡ None) → is_text t ≡ false → is_at 125 t ≡ false → advance nesting_limit (values_at k) t ≡ Err unexpected
value-stops k (tok.name n) w x m = absurd (cc)
value-stops k (tok.text n) w x m = absurd (cc)
value-stops k tok.close_brace w x m = absurd (cc)
value-stops k t w x m = refl

closed-described : {A : Type 0} (all : List A) (d : List ℕ) (to : State) → close all (Some d) to ≡ Err unexpected
closed-described [] d to = refl
closed-described (a ∷ more) d to = refl

described-value-stops : (k : ValuesAt) (d : List ℕ) (t : Tok) → word_of t ≡ None → advance nesting_limit (enum_values k.values k.before (Some d)) t ≡ Err unexpected
described-value-stops k d (tok.name n) w = absurd (cc)
described-value-stops k d tok.close_brace w = closed-described k.before d _
described-value-stops k d t w = refl

-- the name of a value does not come
abbrev pub NoEnumName : Source → Type 0
NoEnumName ahead = (n : List ℕ) → next_word ahead ≡ Some n → is_reserved n ≡ true

takes-value : (k : ValuesAt) (d : Description) (n : List ℕ) → is_reserved n ≡ false
    → advance nesting_limit (enum_values k.values k.before d) (tok.name n) ≡ Ok (behind_value_name k (record { description = d; title = n }))
takes-value k d n e = ap (λ b. cond b (Err unexpected) (Ok (behind_value_name k (record { description = d; title = n })))) e

refuses-value : (k : ValuesAt) (d : Description) (n : List ℕ) → is_reserved n ≡ true → advance nesting_limit (enum_values k.values k.before d) (tok.name n) ≡ Err unexpected
refuses-value k d n e = ap (λ b. cond b (Err unexpected) (Ok (behind_value_name k (record { description = d; title = n })))) e

pub word-cases : (s : Source) (t : Tok) → Comes s t → (word_of t ≡ None) ⊎ ((n : List ℕ) × (t ≡ tok.name n) × (next_word s ≡ Some n))
word-cases ended t c = absurd c
word-cases (faulty code at) t c = absurd c
word-cases (token p rest) t c = on_tok t c
  where
    on_tok : (t : Tok) → tok_of_piece p ≡ t → (word_of t ≡ None) ⊎ ((n : List ℕ) × (t ≡ tok.name n) × (word_of (tok_of_piece p) ≡ Some n))
    on_tok (tok.name n) c = inr (n, refl, ap word_of c)
    on_tok t c = inl refl

no-value : (k : ValuesAt) (s : Source) → NoEnumName s → next_is_text s ≡ false → next_is 125 s ≡ false → (t : Tok) → Comes s t → advance nesting_limit (values_at k) t ≡ Err unexpected
no-value k s miss x m t c = on_word (word-cases s t c)
  where
    on_word : (word_of t ≡ None) ⊎ ((n : List ℕ) × (t ≡ tok.name n) × (next_word s ≡ Some n)) → advance nesting_limit (values_at k) t ≡ Err unexpected
    on_word (inl w) = value-stops k t w (not_text s t c x) (not_at 125 s t c m)
    on_word (inr w) = ap (λ t. advance nesting_limit (values_at k) t) w.1 ∙ refuses-value k None w.0 (miss w.0 w.2)

no-described-value : (k : ValuesAt) (d : List ℕ) (s : Source) → NoEnumName s → (t : Tok) → Comes s t → advance nesting_limit (enum_values k.values k.before (Some d)) t ≡ Err unexpected
no-described-value k d s miss t c = on_word (word-cases s t c)
  where
    on_word : (word_of t ≡ None) ⊎ ((n : List ℕ) × (t ≡ tok.name n) × (next_word s ≡ Some n)) → advance nesting_limit (enum_values k.values k.before (Some d)) t ≡ Err unexpected
    on_word (inl w) = described-value-stops k d t w
    on_word (inr w) = ap (λ t. advance nesting_limit (enum_values k.values k.before (Some d)) t) w.1 ∙ refuses-value k (Some d) w.0 (miss w.0 w.2)

pub plain-value : (a b : Ahead) (r : Result (List ℕ) Fault) → next_is_text a.source ≡ false → IfOk r (λ n. next_word a.source ≡ Some n) → IfOk r (λ n. is_reserved n ≡ false)
    → OnOk r (b.source ≡ behind a.source) → OnOk r ((ns : List ℕ) → lay (2 ∷ ns) a ≡ lay ns b) → OnOk r (b.text ≡ a.text)
    → IfErr r (λ f. Misses f (NoEnumName a.source) (stopped_at (length a.text) a.source))
    → Reads MayField values_at behind_value_name spell_named (λ (w : Named). w.title) a b r
plain-value a b (Ok n) x w v s l t f = record {
  written = record { description = None; title = n };
  viewed = refl;
  goes = λ k size e m. on-name size (values_at k) (behind_value_name k (record { description = None; title = n })) a.source n w (takes-value k None n v)
      ∙ ap (run_on size (behind_value_name k (record { description = None; title = n }))) (sym s);
  nodes = l;
  taken = subst (λ s. token_count s ≤ token_count a.source) (sym s) (behind-count a.source);
  text = t;
}
plain-value a b (Err e) x w v s l t f =
    fails-missed MayField values_at a (NoEnumName a.source) e f (λ k m miss. (refl, λ t c. no-value k a.source miss x m t c))

pub described-value : (a b c : Ahead) (r : Result (List ℕ) Fault) → next_is_text a.source ≡ true → b.source ≡ behind a.source
    → ((ns : List ℕ) → lay (0 ∷ ns) a ≡ lay ns b) → b.text ≡ a.text
    → IfOk r (λ n. next_word b.source ≡ Some n) → IfOk r (λ n. is_reserved n ≡ false) → OnOk r (c.source ≡ behind b.source)
    → OnOk r ((ns : List ℕ) → lay (2 ∷ ns) b ≡ lay ns c) → OnOk r (c.text ≡ b.text) → IfErr r (λ f. Misses f (NoEnumName b.source) (stopped_at (length b.text) b.source))
    → Reads MayField values_at behind_value_name spell_named (λ (w : Named). w.title) a c r
described-value a b c (Ok n) x s l t w v s2 l2 t2 f =
    let d = comes_text a.source x in
    let written : Named = record { description = Some d.0; title = n } in record {
      written = written;
      viewed = refl;
      goes = λ k size e m. on-token size (values_at k) (enum_values k.values k.before (Some d.0)) a.source (tok.text d.0) d.1 refl
          ∙ ap (run_on size (enum_values k.values k.before (Some d.0))) (sym s)
          ∙ on-name size (enum_values k.values k.before (Some d.0)) (behind_value_name k written) b.source n w (takes-value k (Some d.0) n v) ∙ ap (run_on size (behind_value_name k written)) (sym s2);
      nodes = λ ns. l (2 ∷ ns) ∙ l2 ns;
      taken = omega (arith, behind-count a.source, behind-count b.source, ap token_count s, ap token_count s2);
      text = t2 ∙ t;
    }
described-value a b c (Err e) x s l t w v s2 l2 t2 f =
    let d = comes_text a.source x in
    fails-behind MayField values_at (λ (k : ValuesAt) (s : Source). Unit {0}) (λ k. enum_values k.values k.before (Some d.0)) a b (λ k. k) t
    (λ k size e m. on-token size (values_at k) (enum_values k.values k.before (Some d.0)) a.source (tok.text d.0) d.1 refl ∙ ap (run_on size (enum_values k.values k.before (Some d.0))) (sym s))
    (λ k m. tt) e
    (fails-missed (λ (k : ValuesAt) (s : Source). Unit {0}) (λ k. enum_values k.values k.before (Some d.0)) b (NoEnumName b.source) e f
    (λ k m miss. (refl, λ t c. no-described-value k d.0 b.source miss t c)))

module _ (a b : Ahead) (n : List ℕ) (r : Read MayField values_at behind_value_name spell_named (λ (w : Named). w.title) a b n) where
  abbrev pub open_value : ValuesAt → OpenValue
  open_value k = record { values = k.values; before = k.before; description = r.written.description; title = n }

  to_value : (k : ValuesAt) (size : ℕ) → size ≡ length a.text → MayField k a.source → run_on size (values_at k) a.source ≡ run_on size (directives_of (on_value (open_value k))) b.source
  to_value k size e m =
      r.goes k size e m
      ∙ ap (λ n. run_on size (directives_of (on_value (record { values = k.values; before = k.before; description = r.written.description; title = n }))) b.source) r.viewed

  pub value-no_directives : (f : Fault) → Tells f (directives_read nesting_limit true (length b.text) b.source) → Fails MayField values_at a f
  value-no_directives f h =
      fails-behind MayField values_at (λ (o : Owner) (s : Source). Unit {0}) (λ o. directives_of o) a b (λ k. on_value (open_value k)) r.text to_value (λ k m. tt) f (fails-directives b f h)

  pub value-read : (g : Ahead) (ds : List Directive) → directives_read nesting_limit true (length b.text) b.source ≡ Ok (ds, g.source) → g.text ≡ b.text → next_is 64 g.source ≡ false
      → ((ns : List ℕ) → lay (spell_directives node_count ds ns) b ≡ lay ns g) → token_count g.source ≤ token_count a.source
      → Read MayField values_at value_at (spell_enum_value node_count) (λ (w : WrittenValue). w.value) a g (record { name = n; directives = ds })
  value-read g ds directed w last l fewer = record {
    written = record { description = r.written.description; value = record { name = n; directives = ds } };
    viewed = refl;
    goes = λ k size z m. to_value k size z m
        ∙ on-directives size (on_value (open_value k)) b.source g.source ds
        (subst (λ n. directives_read nesting_limit true n b.source ≡ Ok (ds, g.source)) (ap (λ (s : List ℕ). length s) r.text ∙ sym z) directed)
        ∙ alike size (in_directives (further true ds (on_value (open_value k)))) (enum_values k.values (value_then (open_value k) ds) None) g.source refl
        (λ t c. same k t (not_at 64 g.source t c last));
    nodes = λ ns. r.nodes (spell_directives node_count ds ns) ∙ l ns;
    taken = fewer;
    text = w ∙ r.text;
  }
    where
      same : (k : ValuesAt) (t : Tok) → is_at 64 t ≡ false
          → advance nesting_limit (in_directives (further true ds (on_value (open_value k)))) t ≡ advance nesting_limit (enum_values k.values (value_then (open_value k) ds) None) t
      same k tok.at_sign e = absurd (cc)
      same k t e = refl

abbrev pub values_list : ListOf Values ValuesAt WrittenValue EnumValue
values_list = record {
  May = NoDirective;
  unopened = before_values;
  open_at = λ v vs. enum_values v vs None;
  close_at = behind_values;
  opening = 123;
  closing = 125;
  spells = spell_enum_values node_count;
  whole = spell_enum_values_part node_count;
  kept = λ w. w.value;
  at_member = λ v vs. record { values = v; before = vs };
  MayMember = MayField;
  from = values_at;
  to = value_at;
  spell = spell_enum_value node_count;
}

values-whole : (vs : List WrittenValue) (ns : List ℕ) → NotEmpty vs → spell_enum_values_part node_count vs ns ≡ 0 ∷ spell_enum_values node_count vs (0 ∷ ns)
values-whole [] ns h = absurd h
values-whole (v ∷ vs) ns h = refl

pub values_laws : ListLaws values_list
values_laws = record {
  opens = λ v s m. refl;
  begins = λ v vs. refl;
  may_begin = λ v vs s there m n. n;
  goes_on = λ v vs w. refl;
  spells_then = λ vs w ns. values-then node_count vs w ns;
  spells_none = λ ns. refl;
  whole_some = values-whole;
  closes = λ v s vs m h. closed-some vs _ h;
  stops_closed = λ v s m. refl;
  unfinished = λ v vs. refl;
}

pub values-absent : (s : Source) → next_is 123 s ≡ false → (v : Values) (size : ℕ) → NoDirective v s → run_on size (before_values v) s ≡ run_on size (behind_values v []) s
values-absent s n v size m = alike size (before_values v) (behind_values v []) s refl (λ t c. same t (not_at 123 s t c n) (not_at 64 s t c m))
  where
    same : (t : Tok) → is_at 123 t ≡ false → is_at 64 t ≡ false → advance nesting_limit (before_values v) t ≡ advance nesting_limit (behind_values v []) t
    same tok.open_brace e d = absurd (cc)
    same tok.at_sign e d = absurd (cc)
    same t e d = refl

-- ---- roots

root-stops : (k : RootsAt) (t : Tok) → word_of t ≡ None → is_at 125 t ≡ false → advance nesting_limit (roots_at k) t ≡ Err unexpected
root-stops k (tok.name n) w m = absurd (cc)
root-stops k tok.close_brace w m = absurd (cc)
root-stops k t w m = refl

abbrev pub NoKind : Source → Type 0
NoKind ahead = (n : List ℕ) → next_word ahead ≡ Some n → kind_of n ≡ None

pub root-no_kind : (a : Ahead) → NoKind a.source → Fails MayField roots_at a (wrong_at (stopped_at (length a.text) a.source))
root-no_kind a miss = fails-stopped MayField roots_at a (λ k m. (refl, λ t c. on_word k m t c (word-cases a.source t c)))
  where
    on_word : (k : RootsAt) → MayField k a.source → (t : Tok) → Comes a.source t → (word_of t ≡ None) ⊎ ((n : List ℕ) × (t ≡ tok.name n) × (next_word a.source ≡ Some n))
        → advance nesting_limit (roots_at k) t ≡ Err unexpected
    on_word k m t c (inl w) = root-stops k t w (not_at 125 a.source t c m)
    on_word k m t c (inr w) =
        ap (λ t. advance nesting_limit (roots_at k) t) w.1 ∙ ap (λ o. open_root k.schema.front k.schema.directives k.before o) (miss w.0 w.2)

root_colon-stops : (f : Front) (ds : List Directive) (rs : List Root) (x : Kind) (t : Tok) → is_at 58 t ≡ false → advance nesting_limit (root_colon f ds rs x) t ≡ Err unexpected
root_colon-stops f ds rs x tok.colon e = absurd (cc)
root_colon-stops f ds rs x t e = refl

root_name-stops : (f : Front) (ds : List Directive) (rs : List Root) (x : Kind) (t : Tok) → word_of t ≡ None → advance nesting_limit (root_name f ds rs x) t ≡ Err unexpected
root_name-stops f ds rs x (tok.name n) e = absurd (cc)
root_name-stops f ds rs x t e = refl

module _ (a b : Ahead) (x : Kind) (w : next_word a.source ≡ Some (kind_word x)) (s : b.source ≡ behind a.source) (t : b.text ≡ a.text) where
  abbrev colon_at : RootsAt → State
  colon_at k = root_colon k.schema.front k.schema.directives k.before x

  abbrev name_at : RootsAt → State
  name_at k = root_name k.schema.front k.schema.directives k.before x

  to_root_colon : (k : RootsAt) (size : ℕ) → size ≡ length a.text → MayField k a.source → run_on size (roots_at k) a.source ≡ run_on size (colon_at k) b.source
  to_root_colon k size e m =
      on-name size (roots_at k) (colon_at k) a.source (kind_word x) w (ap (λ o. open_root k.schema.front k.schema.directives k.before o) (kind_of-kind x))
      ∙ ap (run_on size (colon_at k)) (sym s)

  pub root-no_colon : (f : Fault) → Misses f (next_is 58 b.source ≡ false) (stopped_at (length b.text) b.source) → Fails MayField roots_at a f
  root-no_colon f m =
      fails-behind MayField roots_at (λ (k : RootsAt) (s : Source). Unit {0}) colon_at a b (λ k. k) t to_root_colon (λ k m. tt) f
      (fails-missed (λ (k : RootsAt) (s : Source). Unit {0}) colon_at b (next_is 58 b.source ≡ false) f m
      (λ k z miss. (refl, λ t c. root_colon-stops k.schema.front k.schema.directives k.before x t (not_at 58 b.source t c miss))))

  module _ (c : Ahead) (colon : next_is 58 b.source ≡ true) (u : c.source ≡ behind b.source) (v : c.text ≡ b.text) where
    to_root_name : (k : RootsAt) (size : ℕ) → size ≡ length a.text → MayField k a.source → run_on size (roots_at k) a.source ≡ run_on size (name_at k) c.source
    to_root_name k size e m = to_root_colon k size e m ∙ on-sign size 58 (colon_at k) (name_at k) b.source colon refl ∙ ap (run_on size (name_at k)) (sym u)

    pub root-no_name : (f : Fault) → Misses f (next_word c.source ≡ None) (stopped_at (length c.text) c.source) → Fails MayField roots_at a f
    root-no_name f m =
        fails-behind MayField roots_at (λ (k : RootsAt) (s : Source). Unit {0}) name_at a c (λ k. k) (v ∙ t) to_root_name (λ k m. tt) f
        (fails-missed (λ (k : RootsAt) (s : Source). Unit {0}) name_at c (next_word c.source ≡ None) f m
        (λ k z miss. (refl, λ t d. root_name-stops k.schema.front k.schema.directives k.before x t (no_word c.source t d miss))))

    pub root-read : (d : Ahead) (n : List ℕ) → next_word c.source ≡ Some n → d.source ≡ behind c.source → d.text ≡ c.text
        → ((ns : List ℕ) → lay (1 ∷ ns) a ≡ lay ns b) → ((ns : List ℕ) → lay (0 ∷ ns) b ≡ lay ns c) → ((ns : List ℕ) → lay (1 ∷ ns) c ≡ lay ns d)
        → Read MayField roots_at root_at (λ (r : Root) (ns : List ℕ). 1 ∷ 0 ∷ 1 ∷ ns) (λ r. r) a d (record { kind = x; name = n })
    root-read d n y z q l1 l2 l3 = record {
      written = record { kind = x; name = n };
      viewed = refl;
      goes = λ k size e m. to_root_name k size e m
          ∙ on-name size (name_at k) (root_at k (record { kind = x; name = n })) c.source n y refl ∙ ap (run_on size (root_at k (record { kind = x; name = n }))) (sym z);
      nodes = λ ns. l1 (0 ∷ 1 ∷ ns) ∙ l2 (1 ∷ ns) ∙ l3 ns;
      taken = omega (arith, behind-count a.source, behind-count b.source, behind-count c.source, ap token_count s, ap token_count u, ap token_count z);
      text = q ∙ v ∙ t;
    }

abbrev pub roots_list : ListOf RootsOf RootsAt Root Root
roots_list = record {
  May = NoDirective;
  unopened = unopened_roots;
  open_at = λ k rs. roots k.front k.directives rs;
  close_at = closed_roots;
  opening = 123;
  closing = 125;
  spells = spell_roots node_count;
  whole = λ rs ns. 0 ∷ spell_roots node_count rs (0 ∷ ns);
  kept = λ r. r;
  at_member = λ k rs. record { schema = k; before = rs };
  MayMember = MayField;
  from = roots_at;
  to = root_at;
  spell = λ r ns. 1 ∷ 0 ∷ 1 ∷ ns;
}

pub roots_laws : ListLaws roots_list
roots_laws = record {
  opens = λ k s m. refl;
  begins = λ k rs. refl;
  may_begin = λ k rs s there m n. n;
  goes_on = λ k rs r. refl;
  spells_then = λ rs r ns. roots-then node_count rs r ns;
  spells_none = λ ns. refl;
  whole_some = λ rs ns h. refl;
  closes = λ k s rs m h. closed-some rs _ h;
  stops_closed = λ k s m. refl;
  unfinished = λ k rs. refl;
}

-- behind directives, where no list is opened
pub roots-stop : (s : Source) (k : RootsOf) → NoDirective k s → next_is 123 s ≡ false
    → (finish (unopened_roots k) ≡ None) × ((t : Tok) → Comes s t → advance nesting_limit (unopened_roots k) t ≡ Err unexpected)
roots-stop s k m n = (refl, λ t c. stop t (not_at 123 s t c n) (not_at 64 s t c m))
  where
    stop : (t : Tok) → is_at 123 t ≡ false → is_at 64 t ≡ false → advance nesting_limit (unopened_roots k) t ≡ Err unexpected
    stop tok.open_brace e d = absurd (cc)
    stop tok.at_sign e d = absurd (cc)
    stop t e d = refl

-- a word that is no kind's names none
pub no-kind : (w : List ℕ) → ((k : Kind) → w ≡ kind_word k → ⊥) → kind_of w ≡ None
no-kind w never = on_kind (kind_of w) (kind_of-word w)
  where
    on_kind : (o : Option Kind) → ((k : Kind) → o ≡ Some k → w ≡ kind_word k) → o ≡ None
    on_kind None is = refl
    on_kind (Some k) is = absurd (never k (is k refl))

-- a list that is kept as it is written
pub as_written : {K T : Type 0} (May : K → Source → Type 0) (from : K → State) (to : K → List T → State) (spell : List T → List ℕ → List ℕ) (a b : Ahead) (ts : List T)
    → Read May from to spell (map (λ (t : T). t)) a b ts → Read May from to spell (λ ts. ts) a b ts
as_written May from to spell a b ts r = record { written = r.written; viewed = sym (map-same r.written) ∙ r.viewed; goes = r.goes; nodes = r.nodes; taken = r.taken; text = r.text }
  where
    map-same : {T : Type 0} (xs : List T) → map (λ (t : T). t) xs ≡ xs
    map-same [] = refl
    map-same (x ∷ xs) = ap (λ ys. x ∷ ys) (map-same xs)
