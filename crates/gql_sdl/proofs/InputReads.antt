-- What has been read of inputs.
use Rattle.std.proofs.Common.{◌≡◌, ◌≤◌, ◌<◌, ℕ, true, false, List, [], ◌∷◌, length, Option, Some, None, option_map, Result, Ok, Err, IfOk, IfErr, OnOk, refl, sym, ap, subst, ◌∙◌, arith}
use Rattle.gql_syntax.specs.gql_lex.Sources.{Source, ended, faulty, token}
use Rattle.gql_syntax.specs.gql_lex.Toks as tok
use Rattle.gql_syntax.specs.gql_lex.Toks.{Tok, punctuator_of, tok_of_piece}
use Rattle.gql_syntax.specs.gql_ast.TypeView.{ty_of}
use Rattle.gql_syntax.specs.gql_ast.ValueView.{value_of}
use Rattle.gql_syntax.specs.gql_ast.declared.directive.Directive.{Directive}
use Rattle.gql_syntax.specs.gql_ast.declared.type_tree.TypeTree.{TypeTree}
use Rattle.gql_syntax.specs.gql_ast.declared.value.ValueTree.{ValueTree}
use Rattle.gql_syntax.proofs.Tokens.{not_at, no_word}
use Rattle.gql_syntax.specs.Answers.{node_count, Misses, default_read}
use Rattle.gql_syntax.specs.Machine.{further, want_type, whole}
use Rattle.gql_syntax.specs.Nexts.{behind, is_at, word_of, is_text, next_is, next_word, next_is_text, Comes, stopped_at, token_count}
use Rattle.gql_syntax.specs.Parts.{directives_read, type_read}
use Rattle.gql_syntax.specs.Places.{Ahead, lay}
use Rattle.gql_syntax.specs.Run.{unexpected}
use Rattle.gql_syntax.specs.Spelling.{spell_type, spell_default, spell_directives}
use Rattle.gql_syntax.specs.Texts.{nesting_limit}
use Rattle.gql_syntax.specs.declared.fault.Fault.{Fault}
use Rattle.gql_syntax.specs.Built.{value_tree}
use Rattle.gql_sdl.specs.Machine.{of_field, of_directive, of_object, OpenInput, TypedInput, input_type, on_input, State, inputs, input_colon, input_default, in_directives, in_type, directives_of, close, advance, finish, input_then}
use Rattle.gql_sdl.specs.Reads.{run_on, Read, Fails, Reads, Member, an_input, a_field, open_member, Named, name_member, spell_named, closer, MayName, InputsAt, MayInput, inputs_at, input_at}
use Rattle.gql_sdl.specs.Schemas.{Description, WrittenInput, spell_input}
use Rattle.gql_syntax.proofs.BuiltTrees.{type_tree-ty_of, value_tree-value_of}
use Rattle.gql_sdl.proofs.Goings.{on-token, on-name, on-sign, alike, on-type, on-default, on-directives, fails-missed, fails-behind}

pub comes_text : (s : Source) → next_is_text s ≡ true → (d : List ℕ) × Comes s (tok.text d)
comes_text ended e = absurd (cc)
comes_text (faulty code at) e = absurd (cc)
comes_text (token p rest) e = on_tok (tok_of_piece p) e
  where
    on_tok : (t : Tok) → is_text t ≡ true → (d : List ℕ) × (t ≡ tok.text d)
    on_tok (tok.text d) e = (d, refl)
    on_tok t e = absurd (cc)

pub not_text : (s : Source) (t : Tok) → Comes s t → next_is_text s ≡ false → is_text t ≡ false
not_text ended t h e = absurd h
not_text (faulty code at) t h e = absurd h
not_text (token p rest) t h e = rw h at e

pub behind-count : (s : Source) → token_count (behind s) ≤ token_count s
behind-count ended = omega arith
behind-count (faulty code at) = omega arith
behind-count (token p rest) = omega arith

pub behind-fewer : (s : Source) (t : Tok) → Comes s t → token_count (behind s) < token_count s
behind-fewer ended t c = absurd c
behind-fewer (faulty code at) t c = absurd c
behind-fewer (token p rest) t c = omega arith

-- ---- what stops a member

abbrev MayTok : Member → Tok → Type 0
MayTok (an_input i ws) t = is_at (closer i) t ≡ false
MayTok (a_field f fs) t = is_at 125 t ≡ false

plain-stops : (k : Member) (t : Tok) → word_of t ≡ None → is_text t ≡ false → MayTok k t → advance nesting_limit (open_member k None) t ≡ Err unexpected
plain-stops (an_input i ws) (tok.name n) w x m = absurd (cc)
plain-stops (an_input i ws) (tok.text n) w x m = absurd (cc)
plain-stops (an_input (of_field f) ws) tok.close_paren w x m = absurd (cc)
plain-stops (an_input (of_field f) ws) tok.close_brace w x m = refl
plain-stops (an_input (of_directive f n) ws) tok.close_paren w x m = absurd (cc)
plain-stops (an_input (of_directive f n) ws) tok.close_brace w x m = refl
plain-stops (an_input (of_object f n ds) ws) tok.close_paren w x m = refl
plain-stops (an_input (of_object f n ds) ws) tok.close_brace w x m = absurd (cc)
plain-stops (an_input i ws) t w x m = refl
plain-stops (a_field f fs) (tok.name n) w x m = absurd (cc)
plain-stops (a_field f fs) (tok.text n) w x m = absurd (cc)
plain-stops (a_field f fs) tok.close_brace w x m = absurd (cc)
plain-stops (a_field f fs) t w x m = refl

closed-described : {A : Type 0} (all : List A) (d : List ℕ) (to : State) → close all (Some d) to ≡ Err unexpected
closed-described [] d to = refl
closed-described (a ∷ more) d to = refl

described-stops : (k : Member) (d : List ℕ) (t : Tok) → word_of t ≡ None → advance nesting_limit (open_member k (Some d)) t ≡ Err unexpected
described-stops (an_input i ws) d (tok.name n) w = absurd (cc)
described-stops (an_input (of_field f) ws) d tok.close_paren w = closed-described ws d _
described-stops (an_input (of_field f) ws) d tok.close_brace w = refl
described-stops (an_input (of_directive f n) ws) d tok.close_paren w = closed-described ws d _
described-stops (an_input (of_directive f n) ws) d tok.close_brace w = refl
described-stops (an_input (of_object f n ds) ws) d tok.close_paren w = refl
described-stops (an_input (of_object f n ds) ws) d tok.close_brace w = closed-described ws d _
described-stops (an_input i ws) d t w = refl
described-stops (a_field f fs) d (tok.name n) w = absurd (cc)
described-stops (a_field f fs) d tok.close_brace w = closed-described fs d _
described-stops (a_field f fs) d t w = refl

open-ends : (k : Member) (d : Description) → finish (open_member k d) ≡ None
open-ends (an_input i ws) d = refl
open-ends (a_field f fs) d = refl

may-tok : (k : Member) (s : Source) (t : Tok) → Comes s t → MayName k s → MayTok k t
may-tok (an_input i ws) s t c m = not_at (closer i) s t c m
may-tok (a_field f fs) s t c m = not_at 125 s t c m

takes-name : (k : Member) (d : Description) (n : List ℕ) → advance nesting_limit (open_member k d) (tok.name n) ≡ Ok (name_member k (record { description = d; title = n }))
takes-name (an_input i ws) d n = refl
takes-name (a_field f fs) d n = refl

takes-text : (k : Member) (d : List ℕ) → advance nesting_limit (open_member k None) (tok.text d) ≡ Ok (open_member k (Some d))
takes-text (an_input i ws) d = refl
takes-text (a_field f fs) d = refl

-- ---- names of members

-- a name without a description
pub plain-name : (a b : Ahead) (r : Result (List ℕ) Fault) → next_is_text a.source ≡ false → IfOk r (λ n. next_word a.source ≡ Some n) → OnOk r (b.source ≡ behind a.source)
    → OnOk r ((ns : List ℕ) → lay (2 ∷ ns) a ≡ lay ns b) → b.text ≡ a.text → IfErr r (λ f. Misses f (next_word a.source ≡ None) (stopped_at (length a.text) a.source))
    → Reads MayName (λ k. open_member k None) name_member spell_named (λ (w : Named). w.title) a b r
plain-name a b (Ok n) x w s l t f = record {
  written = record { description = None; title = n };
  viewed = refl;
  goes = λ k size e m. on-name size (open_member k None) (name_member k (record { description = None; title = n })) a.source n w (takes-name k None n) ∙ ap (run_on size (name_member k (record { description = None; title = n }))) (sym s);
  nodes = l;
  taken = subst (λ s. token_count s ≤ token_count a.source) (sym s) (behind-count a.source);
  text = t;
}
plain-name a b (Err e) x w s l t f =
    fails-missed MayName (λ k. open_member k None) a (next_word a.source ≡ None) e f
    (λ k m miss. (open-ends k None, λ t c. plain-stops k t (no_word a.source t c miss) (not_text a.source t c x) (may-tok k a.source t c m)))

-- a name behind a description
pub described-name : (a b c : Ahead) (r : Result (List ℕ) Fault) → next_is_text a.source ≡ true → b.source ≡ behind a.source
    → ((ns : List ℕ) → lay (0 ∷ ns) a ≡ lay ns b) → b.text ≡ a.text
    → IfOk r (λ n. next_word b.source ≡ Some n) → OnOk r (c.source ≡ behind b.source)
    → OnOk r ((ns : List ℕ) → lay (2 ∷ ns) b ≡ lay ns c) → c.text ≡ b.text → IfErr r (λ f. Misses f (next_word b.source ≡ None) (stopped_at (length b.text) b.source))
    → Reads MayName (λ k. open_member k None) name_member spell_named (λ (w : Named). w.title) a c r
described-name a b c (Ok n) x s l t w s2 l2 t2 f =
    let d = comes_text a.source x in
    let written : Named = record { description = Some d.0; title = n } in record {
      written = written;
      viewed = refl;
      goes = λ k size e m. on-token size (open_member k None) (open_member k (Some d.0)) a.source (tok.text d.0) d.1 (takes-text k d.0) ∙ ap (run_on size (open_member k (Some d.0))) (sym s)
          ∙ on-name size (open_member k (Some d.0)) (name_member k written) b.source n w (takes-name k (Some d.0) n) ∙ ap (run_on size (name_member k written)) (sym s2);
      nodes = λ ns. l (2 ∷ ns) ∙ l2 ns;
      taken = omega (arith, behind-count a.source, behind-count b.source, ap token_count s, ap token_count s2);
      text = t2 ∙ t;
    }
described-name a b c (Err e) x s l t w s2 l2 t2 f =
    let d = comes_text a.source x in
    fails-behind MayName (λ k. open_member k None) (λ (k : Member) (s : Source). Unit {0}) (λ k. open_member k (Some d.0)) a b (λ k. k) t
    (λ k size e m. on-token size (open_member k None) (open_member k (Some d.0)) a.source (tok.text d.0) d.1 (takes-text k d.0) ∙ ap (run_on size (open_member k (Some d.0))) (sym s))
    (λ k m. tt) e
    (fails-missed (λ (k : Member) (s : Source). Unit {0}) (λ k. open_member k (Some d.0)) b (next_word b.source ≡ None) e f
    (λ k m miss. (open-ends k (Some d.0), λ t c. described-stops k d.0 t (no_word b.source t c miss))))

-- ---- inputs

module _ (a b : Ahead) (n : List ℕ) (r : Read MayName (λ k. open_member k None) name_member spell_named (λ (w : Named). w.title) a b n) where
  abbrev pub open_input : InputsAt → OpenInput
  open_input k = record { inputs = k.inputs; before = k.before; description = r.written.description; title = n }

  pub to_colon : (k : InputsAt) (size : ℕ) → size ≡ length a.text → MayInput k a.source → run_on size (inputs_at k) a.source ≡ run_on size (input_colon (open_input k)) b.source
  to_colon k size e m =
      r.goes (an_input k.inputs k.before) size e m
      ∙ ap (λ n. run_on size (input_colon (record { inputs = k.inputs; before = k.before; description = r.written.description; title = n })) b.source) r.viewed

  module _ (c : Ahead) (colon : next_is 58 b.source ≡ true) (s : c.source ≡ behind b.source) (t : c.text ≡ b.text) where
    pub to_type : (k : InputsAt) (size : ℕ) → size ≡ length a.text → MayInput k a.source
        → run_on size (inputs_at k) a.source ≡ run_on size (in_type (want_type nesting_limit (whole (input_type (open_input k))))) c.source
    to_type k size e m =
        to_colon k size e m
        ∙ on-sign size 58 (input_colon (open_input k)) (in_type (want_type nesting_limit (whole (input_type (open_input k))))) b.source colon refl
        ∙ ap (run_on size (in_type (want_type nesting_limit (whole (input_type (open_input k)))))) (sym s)

    text_c : c.text ≡ a.text
    text_c = t ∙ r.text

    module _ (d : Ahead) (of : TypeTree) (typed : type_read nesting_limit (length c.text) c.source ≡ Ok (ty_of of, d.source)) (u : d.text ≡ c.text) where
      abbrev pub typed_input : InputsAt → TypedInput
      typed_input k = record { input = open_input k; of = of }

      pub to_default : (k : InputsAt) (size : ℕ) → size ≡ length a.text → MayInput k a.source → run_on size (inputs_at k) a.source ≡ run_on size (input_default (typed_input k)) d.source
      to_default k size e m =
          to_type k size e m
          ∙ on-type size (input_type (open_input k)) c.source d.source (ty_of of)
          (subst (λ n. type_read nesting_limit n c.source ≡ Ok (ty_of of, d.source)) (ap (λ (s : List ℕ). length s) text_c ∙ sym e) typed)
          ∙ ap (λ t. run_on size (input_default (record { input = open_input k; of = t })) d.source) (type_tree-ty_of of)

      text_d : d.text ≡ a.text
      text_d = u ∙ text_c

      module _ (e : Ahead) (default : Option ValueTree) (defaulted : default_read (length d.text) d.source ≡ Ok (option_map value_of default, e.source)) (v : e.text ≡ d.text) where
        trees : (o : Option ValueTree) → option_map value_tree (option_map value_of o) ≡ o
        trees None = refl
        trees (Some v) = ap Some (value_tree-value_of v)

        pub to_directives : (k : InputsAt) (size : ℕ) → size ≡ length a.text → MayInput k a.source
            → run_on size (inputs_at k) a.source ≡ run_on size (directives_of (on_input (typed_input k) default)) e.source
        to_directives k size z m =
            to_default k size z m
            ∙ on-default size (typed_input k) d.source e.source (option_map value_of default)
            (subst (λ n. default_read n d.source ≡ Ok (option_map value_of default, e.source)) (ap (λ (s : List ℕ). length s) text_d ∙ sym z) defaulted)
            ∙ ap (λ o. run_on size (directives_of (on_input (typed_input k) o)) e.source) (trees default)

        text_e : e.text ≡ a.text
        text_e = v ∙ text_d

        module _ (g : Ahead) (ds : List Directive) (directed : directives_read nesting_limit true (length e.text) e.source ≡ Ok (ds, g.source)) (w : g.text ≡ e.text) (last : next_is 64 g.source ≡ false) where
          settles-input : (k : InputsAt) (size : ℕ) → run_on size (in_directives (further true ds (on_input (typed_input k) default))) g.source
              ≡ run_on size (inputs k.inputs (input_then (typed_input k) default ds) None) g.source
          settles-input k size =
              alike size (in_directives (further true ds (on_input (typed_input k) default))) (inputs k.inputs (input_then (typed_input k) default ds) None) g.source refl
              (λ t c. same t (not_at 64 g.source t c last))
            where
              same : (t : Tok) → is_at 64 t ≡ false
                  → advance nesting_limit (in_directives (further true ds (on_input (typed_input k) default))) t ≡ advance nesting_limit (inputs k.inputs (input_then (typed_input k) default ds) None) t
              same tok.at_sign e = absurd (cc)
              same t e = refl

          pub to_end : (k : InputsAt) (size : ℕ) → size ≡ length a.text → MayInput k a.source
              → run_on size (inputs_at k) a.source ≡ run_on size (inputs k.inputs (input_then (typed_input k) default ds) None) g.source
          to_end k size z m =
              to_directives k size z m
              ∙ on-directives size (on_input (typed_input k) default) e.source g.source ds
              (subst (λ n. directives_read nesting_limit true n e.source ≡ Ok (ds, g.source)) (ap (λ (s : List ℕ). length s) text_e ∙ sym z) directed)
              ∙ settles-input k size

          pub input-read : ((ns : List ℕ) → lay (0 ∷ ns) b ≡ lay ns c) → ((ns : List ℕ) → lay (spell_type node_count (ty_of of) 0 0 ns) c ≡ lay ns d)
              → ((ns : List ℕ) → lay (spell_default node_count default ns) d ≡ lay ns e) → ((ns : List ℕ) → lay (spell_directives node_count ds ns) e ≡ lay ns g)
              → token_count g.source ≤ token_count a.source
              → Read MayInput inputs_at input_at (spell_input node_count) (λ (w : WrittenInput). w.input) a g (record { name = n; of = of; default = default; directives = ds })
          input-read l1 l2 l3 l4 fewer = record {
            written = record { description = r.written.description; input = record { name = n; of = of; default = default; directives = ds } };
            viewed = refl;
            goes = to_end;
            nodes = λ ns. r.nodes (0 ∷ spell_type node_count (ty_of of) 0 0 (spell_default node_count default (spell_directives node_count ds ns)))
                ∙ l1 (spell_type node_count (ty_of of) 0 0 (spell_default node_count default (spell_directives node_count ds ns)))
                ∙ l2 (spell_default node_count default (spell_directives node_count ds ns)) ∙ l3 (spell_directives node_count ds ns) ∙ l4 ns;
            taken = fewer;
            text = w ∙ text_e;
          }

-- ---- faults of inputs

input_colon-stops : (i : OpenInput) (t : Tok) → is_at 58 t ≡ false → advance nesting_limit (input_colon i) t ≡ Err unexpected
input_colon-stops i tok.colon e = absurd (cc)
input_colon-stops i t e = refl

module _ (a b : Ahead) (n : List ℕ) (r : Read MayName (λ k. open_member k None) name_member spell_named (λ (w : Named). w.title) a b n) (f : Fault) where
  pub input-no_colon : Misses f (next_is 58 b.source ≡ false) (stopped_at (length b.text) b.source) → Fails MayInput inputs_at a f
  input-no_colon m =
      fails-behind MayInput inputs_at (λ (i : OpenInput) (s : Source). Unit {0}) (λ i. input_colon i) a b (open_input a b n r) r.text (to_colon a b n r) (λ k m. tt) f
      (fails-missed (λ (i : OpenInput) (s : Source). Unit {0}) (λ i. input_colon i) b (next_is 58 b.source ≡ false) f m
      (λ i x miss. (refl, λ t c. input_colon-stops i t (not_at 58 b.source t c miss))))

pub input-no_name : (a : Ahead) (f : Fault) → Fails MayName (λ k. open_member k None) a f → Fails MayInput inputs_at a f
input-no_name a f h =
    fails-behind MayInput inputs_at MayName (λ k. open_member k None) a a (λ k. an_input k.inputs k.before) refl (λ k size z m. refl) (λ k m. m) f h
