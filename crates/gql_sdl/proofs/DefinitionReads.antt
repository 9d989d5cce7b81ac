-- What has been read of definitions.
use Rattle.std.proofs.Common.{◌≡◌, ◌≢◌, ◌≤◌, ◌<◌, ◌⊎◌, inl, inr, ℕ, ◌+◌, Bool, true, false, bytes_eq, List, [], ◌∷◌, ◌++◌, map, length, codes, Some, None, Result, Ok, Err, OnOk, refl, sym, ap, subst, ◌∙◌, arith}
use Rattle.gql_syntax.specs.gql_lex.Sources.{Source, ended}
use Rattle.gql_syntax.specs.gql_ast.declared.member.InputTree.{InputTree}
use Rattle.gql_syntax.specs.gql_ast.declared.location.Location.{Location}
use Rattle.gql_syntax.specs.gql_lex.Toks as tok
use Rattle.gql_syntax.specs.gql_lex.Toks.{Tok, punctuator_of}
use Rattle.gql_syntax.specs.gql_ast.declared.directive.Directive.{Directive}
use Rattle.gql_syntax.specs.gql_ast.declared.schema.SchemaDef.{SchemaDef}
use Rattle.gql_syntax.proofs.Tokens.{not_at, no_word}
use Rattle.gql_syntax.specs.Answers.{node_count, Misses, wrong_at, Tells}
use Rattle.gql_syntax.specs.Machine.{further}
use Rattle.gql_syntax.specs.Nexts.{behind, is_at, is_text, word_of, next_is, next_is_text, next_word, Comes, stopped_at, token_count}
use Rattle.gql_syntax.specs.Parts.{directives_read}
use Rattle.gql_syntax.specs.Places.{Ahead, lay}
use Rattle.gql_syntax.specs.Run.{unexpected}
use Rattle.gql_syntax.specs.Spelling.{spell_directives}
use Rattle.gql_syntax.specs.Texts.{nesting_limit}
use Rattle.gql_syntax.specs.declared.fault.Fault.{Fault}
use Rattle.gql_syntax.specs.declared.fault.Fault.TheVariants.{Wrong, NoMemory}
use Rattle.gql_sdl.specs.Machine as machine
use Rattle.gql_sdl.specs.Machine.{Front, Fielded, Heading, Fields, fielded_word, Titled, Word, titled, a_schema, a_directive, word_text, titled_word, begin_definition, entitle, Owner, State, head, title, in_directives, directives_of, front_then, advance, finish}
use Rattle.gql_sdl.specs.Reads.{run_on, Read, Fails, Reads, Anywhere, Begins, MayDefine, MayDescribe, behind_all, behind_definition, whole, start, spell_first, spell_definition, spell_all, ReadSchema, MayOpen, before_inputs, Locating, LocatingOn, before_repeatable, set_repeatable, before_locations, behind_locations, spell_locations, Led, Entitled, before_implements, behind_implements, NoDirective, before_fields, behind_fields, FieldedAt, MayFielded, fielded_head, fielded_end, fielded_of, spell_fielded}
use Rattle.gql_sdl.specs.Schemas as written
use Rattle.gql_sdl.specs.Schemas.{Description, Described, NotEmpty, Written, WrittenInput, definition_of, inputs_of, spell_described, spell_definitions, spell_repeatable, written_of, field_of, spell_written, spell_implements, spell_fields_part, spell_argument_defs, spell_input_fields}
use Rattle.gql_sdl.specs.declared.definitions.TypeWithFields.{TypeWithFields}
use Rattle.gql_syntax.specs.gql_ast.declared.member.FieldTree.{FieldTree}
use Rattle.gql_syntax.specs.gql_ast.declared.schema.SchemaDef.TheVariants as S
use Rattle.gql_sdl.proofs.Goings.{on-token, on-name, on-sign, alike, stops, stops-open, on-directives, fails-behind, fails-missed, fails-directives}
use Rattle.gql_sdl.proofs.InputReads.{behind-count, comes_text, not_text}
use Rattle.gql_sdl.proofs.Loops.{map-then}
use Rattle.gql_sdl.proofs.MemberReads.{word-cases}
use Rattle.gql_sdl.proofs.Spellings.{word_of-spelled}

-- a definition is written so, where so many nodes begin at its word
abbrev pub Defined : (word : List ℕ) → (nodes : ℕ) → (a e : Ahead) → SchemaDef → Type 0
Defined word nodes a e d = Read (Begins word) head (λ f w. head (front_then f w)) (spell_written node_count nodes) written_of a e d

title-stops : (f : Front) (k : Titled) (t : Tok) → word_of t ≡ None → advance nesting_limit (title f k) t ≡ Err unexpected
title-stops f k (tok.name n) e = absurd (cc)
title-stops f k t e = refl

-- behind what was read of it, the rest of a definition fails
pub fails-rest : {K : Type 0} (word : List ℕ) (a d : Ahead) (May : K → Source → Type 0) (from : K → State) (under : Front → K) → d.text ≡ a.text
    → ((f : Front) (size : ℕ) → size ≡ length a.text → Begins word f a.source → run_on size (head f) a.source ≡ run_on size (from (under f)) d.source)
    → ((f : Front) → May (under f) d.source) → (f : Fault) → Fails May from d f → Fails (Begins word) head a f
fails-rest word a d May from under t g may f h = fails-behind (Begins word) head May from a d under t g (λ k m. may k) f h

-- and where it is read, the definition is whole
pub reads-rest : {K W T : Type 0} (word : List ℕ) (nodes : ℕ) (a d e : Ahead) (May : K → Source → Type 0) (from : K → State) (to : K → W → State) (spell : W → List ℕ → List ℕ) (view : W → T)
    (under : Front → K) (t : T) (r : Read May from to spell view d e t) (whole : W → Written) (def : SchemaDef) → d.text ≡ a.text → token_count d.source ≤ token_count a.source
    → ((f : Front) (size : ℕ) → size ≡ length a.text → Begins word f a.source → run_on size (head f) a.source ≡ run_on size (from (under f)) d.source)
    → ((f : Front) → May (under f) d.source) → ((f : Front) (w : W) → to (under f) w ≡ head (front_then f (whole w)))
    → ((ns : List ℕ) → lay (spell_written node_count nodes (whole r.written) ns) a ≡ lay (spell r.written ns) d) → written_of (whole r.written) ≡ def
    → Defined word nodes a e def
reads-rest word nodes a d e May from to spell view under t r whole def x fewer g may link laying viewed = record {
  written = whole r.written;
  viewed = viewed;
  goes = λ f size z m. g f size z m ∙ r.goes (under f) size (z ∙ ap (λ (s : List ℕ). length s) (sym x)) (may f) ∙ ap (λ s. run_on size s e.source) (link f r.written);
  nodes = λ ns. laying ns ∙ r.nodes ns;
  taken = omega (arith, r.taken, fewer);
  text = r.text ∙ x;
}

-- ---- definitions that begin with a word and a name

module _ (k : Titled) (a b : Ahead) (s : b.source ≡ behind a.source) (t : b.text ≡ a.text) where
  pub to_title : (f : Front) (size : ℕ) → size ≡ length a.text → Begins (titled_word k) f a.source → run_on size (head f) a.source ≡ run_on size (title f k) b.source
  to_title f size z m =
      on-name size (head f) (title f k) a.source (titled_word k) m (ap (begin_definition f) (word_of-spelled (titled k))) ∙ ap (run_on size (title f k)) (sym s)

  pub titled-no_name : (f : Fault) → Misses f (next_word b.source ≡ None) (stopped_at (length b.text) b.source) → Fails (Begins (titled_word k)) head a f
  titled-no_name f m =
      fails-rest (titled_word k) a b (λ (f : Front) (s : Source). Unit {0}) (λ f. title f k) (λ f. f) t to_title (λ f. tt) f
      (fails-missed (λ (f : Front) (s : Source). Unit {0}) (λ f. title f k) b (next_word b.source ≡ None) f m (λ f z miss. (refl, λ t c. title-stops f k t (no_word b.source t c miss))))

  module _ (c : Ahead) (n : List ℕ) (w : next_word b.source ≡ Some n) (s2 : c.source ≡ behind b.source) (t2 : c.text ≡ b.text) where
    pub to_entitled : (f : Front) (size : ℕ) → size ≡ length a.text → Begins (titled_word k) f a.source → run_on size (head f) a.source ≡ run_on size (entitle f k n) c.source
    to_entitled f size z m = to_title f size z m ∙ on-name size (title f k) (entitle f k n) b.source n w refl ∙ ap (run_on size (entitle f k n)) (sym s2)

    module _ (owner : Front → Owner) (same : (f : Front) → entitle f k n ≡ directives_of (owner f)) where
      to_owner : (f : Front) (size : ℕ) → size ≡ length a.text → Begins (titled_word k) f a.source → run_on size (head f) a.source ≡ run_on size (directives_of (owner f)) c.source
      to_owner f size z m = to_entitled f size z m ∙ ap (λ s. run_on size s c.source) (same f)

      pub titled-no_directives : (f : Fault) → Tells f (directives_read nesting_limit true (length c.text) c.source) → Fails (Begins (titled_word k)) head a f
      titled-no_directives f h =
          fails-rest (titled_word k) a c (λ (o : Owner) (s : Source). Unit {0}) (λ o. directives_of o) owner (t2 ∙ t) to_owner (λ f. tt) f (fails-directives c f h)

      pub to_directives : (d : Ahead) (ds : List Directive) → directives_read nesting_limit true (length c.text) c.source ≡ Ok (ds, d.source)
          → (f : Front) (size : ℕ) → size ≡ length a.text → Begins (titled_word k) f a.source → run_on size (head f) a.source ≡ run_on size (in_directives (further true ds (owner f))) d.source
      to_directives d ds directed f size z m =
          to_owner f size z m
          ∙ on-directives size (owner f) c.source d.source ds
          (subst (λ n. directives_read nesting_limit true n c.source ≡ Ok (ds, d.source)) (ap (λ (s : List ℕ). length s) (t2 ∙ t) ∙ sym z) directed)

-- ---- scalars

pub scalar-read : (nodes : ℕ) (a b c d : Ahead) (n : List ℕ) (ds : List Directive) → b.source ≡ behind a.source → ((ns : List ℕ) → lay (nodes ∷ ns) a ≡ lay ns b) → b.text ≡ a.text
    → next_word b.source ≡ Some n → c.source ≡ behind b.source → ((ns : List ℕ) → lay (1 ∷ ns) b ≡ lay ns c) → c.text ≡ b.text
    → directives_read nesting_limit true (length c.text) c.source ≡ Ok (ds, d.source) → ((ns : List ℕ) → lay (spell_directives node_count ds ns) c ≡ lay ns d) → d.text ≡ c.text
    → next_is 64 d.source ≡ false → token_count d.source ≤ token_count c.source
    → Defined (codes "scalar") nodes a d (written_of (written.scalar n ds))
scalar-read nodes a b c d n ds s l t w s2 l2 t2 directed l3 t3 last fewer = record {
  written = written.scalar n ds;
  viewed = refl;
  goes = λ f size z m. to_directives machine.a_scalar a b s t c n w s2 t2 (λ f. machine.on_scalar f n) (λ f. refl) d ds directed f size z m
      ∙ alike size (in_directives (further true ds (machine.on_scalar f n))) (head (front_then f (written.scalar n ds))) d.source refl (λ t c. same f t (not_at 64 d.source t c last));
  nodes = λ ns. l (1 ∷ spell_directives node_count ds ns) ∙ l2 (spell_directives node_count ds ns) ∙ l3 ns;
  taken = omega (arith, fewer, behind-count a.source, behind-count b.source, ap token_count s, ap token_count s2);
  text = t3 ∙ t2 ∙ t;
}
  where
    same : (f : Front) (t : Tok) → is_at 64 t ≡ false → advance nesting_limit (in_directives (further true ds (machine.on_scalar f n))) t ≡ advance nesting_limit (head (front_then f (written.scalar n ds))) t
    same f tok.at_sign e = absurd (cc)
    same f t e = refl

-- ---- schemas

pub to_schema : (a b : Ahead) → b.source ≡ behind a.source
    → (f : Front) (size : ℕ) → size ≡ length a.text → Begins (codes "schema") f a.source → run_on size (head f) a.source ≡ run_on size (directives_of (machine.on_schema f)) b.source
to_schema a b s f size z m = on-name size (head f) (directives_of (machine.on_schema f)) a.source (codes "schema") m refl ∙ ap (run_on size (directives_of (machine.on_schema f))) (sym s)

pub schema-no_directives : (a b : Ahead) (f : Fault) → b.source ≡ behind a.source → b.text ≡ a.text → Tells f (directives_read nesting_limit true (length b.text) b.source)
    → Fails (Begins (codes "schema")) head a f
schema-no_directives a b f s t h =
    fails-rest (codes "schema") a b (λ (o : Owner) (s : Source). Unit {0}) (λ o. directives_of o) (λ f. machine.on_schema f) t (to_schema a b s) (λ f. tt) f (fails-directives b f h)

pub to_roots : (a b c : Ahead) (ds : List Directive) → b.source ≡ behind a.source → b.text ≡ a.text → directives_read nesting_limit true (length b.text) b.source ≡ Ok (ds, c.source)
    → (f : Front) (size : ℕ) → size ≡ length a.text → Begins (codes "schema") f a.source → run_on size (head f) a.source ≡ run_on size (in_directives (further true ds (machine.on_schema f))) c.source
to_roots a b c ds s t directed f size z m =
    to_schema a b s f size z m
    ∙ on-directives size (machine.on_schema f) b.source c.source ds (subst (λ n. directives_read nesting_limit true n b.source ≡ Ok (ds, c.source)) (ap (λ (s : List ℕ). length s) t ∙ sym z) directed)

-- ---- directives

directive_sign-stops : (f : Front) (t : Tok) → is_at 64 t ≡ false → advance nesting_limit (machine.directive_sign f) t ≡ Err unexpected
directive_sign-stops f tok.at_sign e = absurd (cc)
directive_sign-stops f t e = refl

directive_title-stops : (f : Front) (t : Tok) → word_of t ≡ None → advance nesting_limit (machine.directive_title f) t ≡ Err unexpected
directive_title-stops f (tok.name n) e = absurd (cc)
directive_title-stops f t e = refl

module _ (a b : Ahead) (s : b.source ≡ behind a.source) (t : b.text ≡ a.text) where
  to_sign : (f : Front) (size : ℕ) → size ≡ length a.text → Begins (codes "directive") f a.source → run_on size (head f) a.source ≡ run_on size (machine.directive_sign f) b.source
  to_sign f size z m = on-name size (head f) (machine.directive_sign f) a.source (codes "directive") m refl ∙ ap (run_on size (machine.directive_sign f)) (sym s)

  pub directive-no_sign : (f : Fault) → Misses f (next_is 64 b.source ≡ false) (stopped_at (length b.text) b.source) → Fails (Begins (codes "directive")) head a f
  directive-no_sign f x =
      fails-rest (codes "directive") a b (λ (f : Front) (s : Source). Unit {0}) (λ f. machine.directive_sign f) (λ f. f) t to_sign (λ f. tt) f
      (fails-missed (λ (f : Front) (s : Source). Unit {0}) (λ f. machine.directive_sign f) b (next_is 64 b.source ≡ false) f x
      (λ f z miss. (refl, λ t c. directive_sign-stops f t (not_at 64 b.source t c miss))))

  module _ (c : Ahead) (sign : next_is 64 b.source ≡ true) (s2 : c.source ≡ behind b.source) (t2 : c.text ≡ b.text) where
    to_name : (f : Front) (size : ℕ) → size ≡ length a.text → Begins (codes "directive") f a.source → run_on size (head f) a.source ≡ run_on size (machine.directive_title f) c.source
    to_name f size z m = to_sign f size z m ∙ on-sign size 64 (machine.directive_sign f) (machine.directive_title f) b.source sign refl ∙ ap (run_on size (machine.directive_title f)) (sym s2)

    pub directive-no_name : (f : Fault) → Misses f (next_word c.source ≡ None) (stopped_at (length c.text) c.source) → Fails (Begins (codes "directive")) head a f
    directive-no_name f x =
        fails-rest (codes "directive") a c (λ (f : Front) (s : Source). Unit {0}) (λ f. machine.directive_title f) (λ f. f) (t2 ∙ t) to_name (λ f. tt) f
        (fails-missed (λ (f : Front) (s : Source). Unit {0}) (λ f. machine.directive_title f) c (next_word c.source ≡ None) f x
        (λ f z miss. (refl, λ t d. directive_title-stops f t (no_word c.source t d miss))))

    pub to_arguments : (d : Ahead) (n : List ℕ) → next_word c.source ≡ Some n → d.source ≡ behind c.source
        → (f : Front) (size : ℕ) → size ≡ length a.text → Begins (codes "directive") f a.source → run_on size (head f) a.source ≡ run_on size (machine.directive_arguments f n) d.source
    to_arguments d n w s3 f size z m =
        to_name f size z m ∙ on-name size (machine.directive_title f) (machine.directive_arguments f n) c.source n w refl ∙ ap (run_on size (machine.directive_arguments f n)) (sym s3)

-- ---- types with fields

module _ (a b c : Ahead) (n : List ℕ) (s : b.source ≡ behind a.source) (t : b.text ≡ a.text) (w : next_word b.source ≡ Some n) (s2 : c.source ≡ behind b.source) (t2 : c.text ≡ b.text) where
  abbrev pub told_at : FieldedAt → Entitled
  told_at x = record { front = x.front; kind = x.kind; title = n }

  to_implements : (x : FieldedAt) (size : ℕ) → size ≡ length a.text → MayFielded x a.source → run_on size (fielded_head x) a.source ≡ run_on size (before_implements (told_at x)) c.source
  to_implements x size z m = to_entitled (machine.with_fields x.kind) a b s t c n w s2 t2 x.front size z m

  pub fielded-no_implements : (f : Fault) → Fails Anywhere before_implements c f → Fails MayFielded fielded_head a f
  fielded-no_implements f h = fails-behind MayFielded fielded_head Anywhere before_implements a c told_at (t2 ∙ t) to_implements (λ x m. tt) f h

  module _ (d : Ahead) (is : List (List ℕ)) (r : Read Anywhere before_implements behind_implements (λ (w : Led (List ℕ)) (ns : List ℕ). spell_implements node_count w.leading w.all ns) (λ w. w.all) c d is) where
    abbrev pub heading_at : FieldedAt → Heading
    heading_at x = machine.heading_of x.front x.kind n r.written.leading r.written.all

    text_d : d.text ≡ a.text
    text_d = r.text ∙ t2 ∙ t

    to_its_directives : (x : FieldedAt) (size : ℕ) → size ≡ length a.text → MayFielded x a.source → run_on size (fielded_head x) a.source ≡ run_on size (directives_of (machine.on_fielded (heading_at x))) d.source
    to_its_directives x size z m = to_implements x size z m ∙ r.goes (told_at x) size (z ∙ ap (λ (s : List ℕ). length s) (sym (t2 ∙ t))) tt

    pub fielded-no_directives : (f : Fault) → Tells f (directives_read nesting_limit true (length d.text) d.source) → Fails MayFielded fielded_head a f
    fielded-no_directives f h =
        fails-behind MayFielded fielded_head (λ (o : Owner) (s : Source). Unit {0}) (λ o. directives_of o) a d (λ x. machine.on_fielded (heading_at x)) text_d to_its_directives (λ x m. tt) f
        (fails-directives d f h)

    module _ (e : Ahead) (ds : List Directive) (directed : directives_read nesting_limit true (length d.text) d.source ≡ Ok (ds, e.source)) (t4 : e.text ≡ d.text) (last : next_is 64 e.source ≡ false) where
      abbrev pub fields_of : FieldedAt → Fields
      fields_of x = record { heading = heading_at x; directives = ds }

      to_fields : (x : FieldedAt) (size : ℕ) → size ≡ length a.text → MayFielded x a.source → run_on size (fielded_head x) a.source ≡ run_on size (before_fields (fields_of x)) e.source
      to_fields x size z m =
          to_its_directives x size z m
          ∙ on-directives size (machine.on_fielded (heading_at x)) d.source e.source ds
          (subst (λ n. directives_read nesting_limit true n d.source ≡ Ok (ds, e.source)) (ap (λ (s : List ℕ). length s) text_d ∙ sym z) directed)

      pub fielded-no_fields : (f : Fault) → Fails NoDirective before_fields e f → Fails MayFielded fielded_head a f
      fielded-no_fields f h = fails-behind MayFielded fielded_head NoDirective before_fields a e fields_of (t4 ∙ text_d) to_fields (λ x m. last) f h

      pub fielded-read : (nodes : ℕ) (g : Ahead) (fs : List FieldTree) (q : Read NoDirective before_fields behind_fields (spell_fields_part node_count) (map field_of) e g fs)
          → ((ns : List ℕ) → lay (nodes ∷ ns) a ≡ lay ns b) → ((ns : List ℕ) → lay (1 ∷ ns) b ≡ lay ns c) → ((ns : List ℕ) → lay (spell_directives node_count ds ns) d ≡ lay ns e)
          → token_count g.source ≤ token_count a.source
          → Read MayFielded fielded_head fielded_end (spell_fielded nodes) fielded_of a g (record { name = n; implements = is; directives = ds; fields = fs })
      fielded-read nodes g fs q l l2 l4 fewer = record {
        written = record { title = n; implements = r.written; directives = ds; fields = q.written };
        viewed = ap (λ is. record { name = n; implements = is; directives = ds; fields = map field_of q.written }) r.viewed
            ∙ ap (λ fs. record { name = n; implements = is; directives = ds; fields = fs }) q.viewed;
        goes = λ x size z m. to_fields x size z m ∙ q.goes (fields_of x) size (z ∙ ap (λ (s : List ℕ). length s) (sym (t4 ∙ text_d))) last;
        nodes = λ ns. l (1 ∷ spell_implements node_count r.written.leading r.written.all (spell_directives node_count ds (spell_fields_part node_count q.written ns)))
            ∙ l2 (spell_implements node_count r.written.leading r.written.all (spell_directives node_count ds (spell_fields_part node_count q.written ns)))
            ∙ r.nodes (spell_directives node_count ds (spell_fields_part node_count q.written ns)) ∙ l4 (spell_fields_part node_count q.written ns) ∙ q.nodes ns;
        taken = fewer;
        text = q.text ∙ t4 ∙ text_d;
      }

pub fielded-no_name : (a b : Ahead) (f : Fault) → b.source ≡ behind a.source → b.text ≡ a.text → Misses f (next_word b.source ≡ None) (stopped_at (length b.text) b.source) → Fails MayFielded fielded_head a f
fielded-no_name a b f s t m =
    fails-behind MayFielded fielded_head (λ (x : FieldedAt) (s : Source). Unit {0}) (λ x. title x.front (machine.with_fields x.kind)) a b (λ x. x) t
    (λ x size z m. to_title (machine.with_fields x.kind) a b s t x.front size z m) (λ x m. tt) f
    (fails-missed (λ (x : FieldedAt) (s : Source). Unit {0}) (λ x. title x.front (machine.with_fields x.kind)) b (next_word b.source ≡ None) f m
    (λ x z miss. (refl, λ t c. title-stops x.front (machine.with_fields x.kind) t (no_word b.source t c miss))))

-- an object, or an interface
pub fielded-fail : (kind : Fielded) (a : Ahead) (f : Fault) → Fails MayFielded fielded_head a f → Fails (Begins (fielded_word kind)) head a f
fielded-fail kind a f h = fails-behind (Begins (fielded_word kind)) head MayFielded fielded_head a a (λ f. record { front = f; kind = kind }) refl (λ f size z m. refl) (λ f m. m) f h

pub object-read : (nodes : ℕ) (a g : Ahead) (t : TypeWithFields) → Read MayFielded fielded_head fielded_end (spell_fielded nodes) fielded_of a g t
    → Defined (codes "type") nodes a g (S.Object t.name t.implements t.directives t.fields)
object-read nodes a g t r = record {
  written = written.object r.written.title r.written.implements.leading r.written.implements.all r.written.directives r.written.fields;
  viewed = ap (λ (t : TypeWithFields). S.Object t.name t.implements t.directives t.fields) r.viewed;
  goes = λ f size z m. r.goes (record { front = f; kind = machine.an_object }) size z m;
  nodes = r.nodes;
  taken = r.taken;
  text = r.text;
}

pub interface-read : (nodes : ℕ) (a g : Ahead) (t : TypeWithFields) → Read MayFielded fielded_head fielded_end (spell_fielded nodes) fielded_of a g t
    → Defined (codes "interface") nodes a g (S.Interface t.name t.implements t.directives t.fields)
interface-read nodes a g t r = record {
  written = written.interface r.written.title r.written.implements.leading r.written.implements.all r.written.directives r.written.fields;
  viewed = ap (λ (t : TypeWithFields). S.Interface t.name t.implements t.directives t.fields) r.viewed;
  goes = λ f size z m. r.goes (record { front = f; kind = machine.an_interface }) size z m;
  nodes = r.nodes;
  taken = r.taken;
  text = r.text;
}

-- the nodes of the fields of an input object are those of arguments
pub fields-as-arguments : (ws : List WrittenInput) (ns : List ℕ) → spell_input_fields node_count ws ns ≡ spell_argument_defs node_count ws ns
fields-as-arguments [] ns = refl
fields-as-arguments (w ∷ ws) ns = refl

-- ---- directives, behind their name

module _ (a b c d : Ahead) (n : List ℕ) (s : b.source ≡ behind a.source) (t : b.text ≡ a.text) (sign : next_is 64 b.source ≡ true) (s2 : c.source ≡ behind b.source) (t2 : c.text ≡ b.text)
    (w : next_word c.source ≡ Some n) (s3 : d.source ≡ behind c.source) (t3 : d.text ≡ c.text) where
  text_d2 : d.text ≡ a.text
  text_d2 = t3 ∙ t2 ∙ t

  pub directive-no_arguments : (f : Fault) → Fails (MayOpen 40 41) before_inputs d f → Fails (Begins (codes "directive")) head a f
  directive-no_arguments f h =
      fails-rest (codes "directive") a d (MayOpen 40 41) before_inputs (λ f. machine.of_directive f n) text_d2 (to_arguments a b s t c sign s2 t2 d n w s3) (λ f. (refl, refl, tt)) f h

  module _ (e : Ahead) (args : List InputTree) (r : Read (MayOpen 40 41) before_inputs machine.after_inputs (spell_argument_defs node_count) inputs_of d e args) where
    abbrev locating_at : Front → Locating
    locating_at f = record { front = f; title = n; arguments = r.written }

    to_marks : (f : Front) (size : ℕ) → size ≡ length a.text → Begins (codes "directive") f a.source → run_on size (head f) a.source ≡ run_on size (before_repeatable (locating_at f)) e.source
    to_marks f size z m =
        to_arguments a b s t c sign s2 t2 d n w s3 f size z m ∙ r.goes (machine.of_directive f n) size (z ∙ ap (λ (s : List ℕ). length s) (sym text_d2)) (refl, refl, tt)

    pub directive-no_marks : (f : Fault) → Fails Anywhere before_repeatable e f → Fails (Begins (codes "directive")) head a f
    directive-no_marks f h = fails-rest (codes "directive") a e Anywhere before_repeatable locating_at (r.text ∙ text_d2) to_marks (λ f. tt) f h

    module _ (g : Ahead) (rep : Bool) (q : Read Anywhere before_repeatable set_repeatable (λ (r : Bool) (ns : List ℕ). spell_repeatable node_count r (0 ∷ ns)) (λ r. r) e g rep) where
      abbrev locating_on : Front → LocatingOn
      locating_on f = record { directive = locating_at f; repeatable = q.written }

      to_locations : (f : Front) (size : ℕ) → size ≡ length a.text → Begins (codes "directive") f a.source → run_on size (head f) a.source ≡ run_on size (before_locations (locating_on f)) g.source
      to_locations f size z m = to_marks f size z m ∙ q.goes (locating_at f) size (z ∙ ap (λ (s : List ℕ). length s) (sym (r.text ∙ text_d2))) tt

      pub directive-no_locations : (f : Fault) → Fails Anywhere before_locations g f → Fails (Begins (codes "directive")) head a f
      directive-no_locations f h = fails-rest (codes "directive") a g Anywhere before_locations locating_on (q.text ∙ r.text ∙ text_d2) to_locations (λ f. tt) f h

      pub directive-read : (nodes : ℕ) (h : Ahead) (ls : List Location) (p : Read Anywhere before_locations behind_locations spell_locations (λ (w : Led Location). w.all) g h ls)
          → ((ns : List ℕ) → lay (nodes ∷ ns) a ≡ lay ns b) → ((ns : List ℕ) → lay (0 ∷ ns) b ≡ lay ns c) → ((ns : List ℕ) → lay (1 ∷ ns) c ≡ lay ns d)
          → token_count d.source ≤ token_count a.source
          → Defined (codes "directive") nodes a h (S.Directive n args rep ls)
      directive-read nodes h ls p l l2 l3 fewer = record {
        written = written.directive n r.written q.written p.written.leading p.written.all;
        viewed = ap (λ args. S.Directive n args q.written p.written.all) r.viewed ∙ ap (λ rep. S.Directive n args rep p.written.all) q.viewed ∙ ap (λ ls. S.Directive n args rep ls) p.viewed;
        goes = λ f size z m. to_locations f size z m ∙ p.goes (locating_on f) size (z ∙ ap (λ (s : List ℕ). length s) (sym (q.text ∙ r.text ∙ text_d2))) tt;
        nodes = λ ns. l (0 ∷ 1 ∷ spell_argument_defs node_count r.written (spell_repeatable node_count q.written (0 ∷ spell_locations p.written ns)))
            ∙ l2 (1 ∷ spell_argument_defs node_count r.written (spell_repeatable node_count q.written (0 ∷ spell_locations p.written ns)))
            ∙ l3 (spell_argument_defs node_count r.written (spell_repeatable node_count q.written (0 ∷ spell_locations p.written ns)))
            ∙ r.nodes (spell_repeatable node_count q.written (0 ∷ spell_locations p.written ns)) ∙ q.nodes (spell_locations p.written ns) ∙ p.nodes ns;
        taken = omega (arith, p.taken, q.taken, r.taken, fewer);
        text = p.text ∙ q.text ∙ r.text ∙ text_d2;
      }

-- ---- any definition

pub begun-reads : (word : List ℕ) (nodes : ℕ) (a e : Ahead) (r : Result SchemaDef Fault) → next_word a.source ≡ Some word
    → Reads (Begins word) head whole (spell_written node_count nodes) written_of a e r → Reads MayDescribe head whole (spell_written node_count nodes) written_of a e r
begun-reads word nodes a e (Ok d) w r = record { written = r.written; viewed = r.viewed; goes = λ f size z m. r.goes f size z w; nodes = r.nodes; taken = r.taken; text = r.text }
begun-reads word nodes a e (Err (Wrong code at)) w r = λ f size z m. r f size z w
begun-reads word nodes a e (Err NoMemory) w r = tt

described-stops : (d : Description) (e : List ℕ) (to : Description → State) → (d ≡ None → ⊥) → machine.describe d e to ≡ Err unexpected
described-stops None e to never = absurd (never refl)
described-stops (Some d) e to never = refl

head-stops : (f : Front) (t : Tok) → (f.description ≡ None → is_text t ≡ false) → ((n : List ℕ) → t ≡ tok.name n → machine.word_of n ≡ None) → advance nesting_limit (head f) t ≡ Err unexpected
head-stops f (tok.text d) x h = described-stops f.description d _ (λ e. let k = x e in absurd (cc))
head-stops f (tok.name n) x h = ap (begin_definition f) (h n refl)
head-stops f t x h = refl

-- no definition begins here
pub no-definition : (a : Ahead) → ((n : List ℕ) → next_word a.source ≡ Some n → machine.word_of n ≡ None) → Fails MayDescribe head a (wrong_at (stopped_at (length a.text) a.source))
no-definition a h =
    λ f size z m. stopped f size (m) ∙ ap (λ n. Err (stopped_at n a.source)) z
  where
    came : (t : Tok) → Comes a.source t → (n : List ℕ) → t ≡ tok.name n → next_word a.source ≡ Some n
    came t c n same = on_cases (word-cases a.source t c)
      where
        on_cases : (word_of t ≡ None) ⊎ ((m : List ℕ) × (t ≡ tok.name m) × (next_word a.source ≡ Some m)) → next_word a.source ≡ Some n
        on_cases (inl w) = let h : word_of (tok.name n) ≡ None = ap word_of (sym same) ∙ w in absurd (cc)
        on_cases (inr w) = let h : tok.name w.0 ≡ tok.name n = sym w.1 ∙ same in let k : w.0 ≡ n = cc in w.2 ∙ ap (λ m. Some m) k

    takes-none : (f : Front) → MayDescribe f a.source → (t : Tok) → Comes a.source t → advance nesting_limit (head f) t ≡ Err unexpected
    takes-none f m t c = head-stops f t (λ e. not_text a.source t c (m e).0) (λ n same. h n (came t c n same))

    on_front : (before : List Described) (d : Description) (size : ℕ) → MayDescribe (record { before = before; description = d }) a.source
        → run_on size (head (record { before = before; description = d })) a.source ≡ Err (stopped_at size a.source)
    on_front [] d size m = stops size (head (record { before = []; description = d })) a.source refl (takes-none (record { before = []; description = d }) m)
    on_front (b ∷ before) (Some d) size m = stops size (head (record { before = b ∷ before; description = Some d })) a.source refl (takes-none (record { before = b ∷ before; description = Some d }) m)
    on_front (b ∷ before) None size m = on_end (m refl).1
      where
        on_end : MayDefine (b ∷ before) a.source → run_on size (head (record { before = b ∷ before; description = None })) a.source ≡ Err (stopped_at size a.source)
        on_end (inl e) = absurd (cc)
        on_end (inr e) = stops-open size (head (record { before = b ∷ before; description = None })) a.source e (takes-none (record { before = b ∷ before; description = None }) m)

    stopped : (f : Front) (size : ℕ) → MayDescribe f a.source → run_on size (head f) a.source ≡ Err (stopped_at size a.source)
    stopped f size m = on_front f.before f.description size m

-- ---- a definition with its description

pub plain-definition : (nodes : ℕ) (a e : Ahead) (r : Result SchemaDef Fault) → next_is_text a.source ≡ false
    → Reads MayDescribe head whole (spell_written node_count nodes) written_of a e r → Reads MayDefine behind_all behind_definition (spell_definition nodes) definition_of a e r
plain-definition nodes a e (Ok d) n r = record {
  written = record { description = None; written = r.written };
  viewed = r.viewed;
  goes = λ ds size z m. r.goes (record { before = ds; description = None }) size z (λ e. (n, m));
  nodes = r.nodes;
  taken = r.taken;
  text = r.text;
}
plain-definition nodes a e (Err f) n r =
    fails-behind MayDefine behind_all MayDescribe head a a (λ ds. record { before = ds; description = None }) refl (λ ds size z m. refl) (λ ds m e. (n, m)) f r

pub described-definition : (nodes : ℕ) (a b e : Ahead) (r : Result SchemaDef Fault) → next_is_text a.source ≡ true → b.source ≡ behind a.source → ((ns : List ℕ) → lay (nodes ∷ ns) a ≡ lay ns b)
    → b.text ≡ a.text → Reads MayDescribe head whole (spell_written node_count 0) written_of b e r → Reads MayDefine behind_all behind_definition (spell_definition nodes) definition_of a e r
described-definition nodes a b e (Ok d) n s l t r =
    let x = comes_text a.source n in record {
      written = record { description = Some x.0; written = r.written };
      viewed = r.viewed;
      goes = λ ds size z m. on-token size (behind_all ds) (head (record { before = ds; description = Some x.0 })) a.source (tok.text x.0) x.1 refl
          ∙ ap (run_on size (head (record { before = ds; description = Some x.0 }))) (sym s)
          ∙ r.goes (record { before = ds; description = Some x.0 }) size (z ∙ ap (λ (s : List ℕ). length s) (sym t)) (λ e. absurd (cc));
      nodes = λ ns. l (spell_written node_count 0 r.written ns) ∙ r.nodes ns;
      taken = omega (arith, r.taken, ap token_count s, behind-count a.source);
      text = r.text ∙ t;
    }
described-definition nodes a b e (Err f) n s l t r =
    let x = comes_text a.source n in
    fails-behind MayDefine behind_all MayDescribe head a b (λ ds. record { before = ds; description = Some x.0 }) t
    (λ ds size z m. on-token size (behind_all ds) (head (record { before = ds; description = Some x.0 })) a.source (tok.text x.0) x.1 refl
    ∙ ap (run_on size (head (record { before = ds; description = Some x.0 }))) (sym s)) (λ ds m e. absurd (cc)) f r

-- ---- definitions, one behind the other

abbrev pub Definitions : (a b : Ahead) → List SchemaDef → Type 0
Definitions a b ds = Read {K = Unit {0}} Anywhere start (λ u ds. behind_all ds) (spell_all 2) (map definition_of) a b ds

pub first-definition : (a b : Ahead) (d : SchemaDef) (us : List SchemaDef) → Read MayDefine behind_all behind_definition (spell_definition 2) definition_of a b d → us ≡ d ∷ [] → Definitions a b us
first-definition a b d us r e = record {
  written = r.written ∷ [];
  viewed = ap (λ d. d ∷ []) r.viewed ∙ sym e;
  goes = λ u size z m. r.goes [] size z (inl refl);
  nodes = r.nodes;
  taken = r.taken;
  text = r.text;
}

all-then : (nodes : ℕ) (ds : List Described) (d : Described) (ns : List ℕ) → NotEmpty ds → spell_all nodes (ds ++ d ∷ []) ns ≡ spell_all nodes ds (spell_definition 1 d ns)
all-then nodes [] d ns h = absurd h
all-then nodes (b ∷ []) d ns h = refl
all-then nodes (b ∷ e ∷ ds) d ns h = ap (spell_definition nodes b) (all-then 1 (e ∷ ds) d ns tt)

some-written : (ds : List Described) → NotEmpty (map definition_of ds) → NotEmpty ds
some-written [] h = h
some-written (d ∷ ds) h = tt

pub next-definition : (a b c : Ahead) (ds us : List SchemaDef) (d : SchemaDef) → Definitions a b ds → NotEmpty ds → b.source ≢ ended
    → Read MayDefine behind_all behind_definition (spell_definition 1) definition_of b c d → us ≡ ds ++ d ∷ [] → Definitions a c us
next-definition a b c ds us d r h n i e = record {
  written = r.written ++ i.written ∷ [];
  viewed = map-then definition_of r.written i.written ∙ ap (λ xs. xs ++ definition_of i.written ∷ []) r.viewed ∙ ap (λ x. ds ++ x ∷ []) i.viewed ∙ sym e;
  goes = λ u size z m. r.goes u size z m ∙ i.goes r.written size (z ∙ ap (λ (s : List ℕ). length s) (sym r.text)) (inr n);
  nodes = λ ns. ap (λ xs. lay xs a) (all-then 2 r.written i.written ns (some-written r.written (subst NotEmpty (sym r.viewed) h)))
      ∙ r.nodes (spell_definition 1 i.written ns) ∙ i.nodes ns;
  taken = omega (arith, r.taken, i.taken);
  text = i.text ∙ r.text;
}

pub first-fails : (a : Ahead) (f : Fault) → Fails MayDefine behind_all a f → Fails {K = Unit {0}} Anywhere start a f
first-fails a f h = fails-behind {K = Unit {0}} Anywhere start MayDefine behind_all a a (λ u. []) refl (λ u size z m. refl) (λ u m. inl refl) f h

pub next-fails : (a b : Ahead) (ds : List SchemaDef) (f : Fault) → Definitions a b ds → b.source ≢ ended → Fails MayDefine behind_all b f → Fails {K = Unit {0}} Anywhere start a f
next-fails a b ds f r n h =
    fails-behind {K = Unit {0}} Anywhere start MayDefine behind_all a b (λ u. r.written) r.text (λ u size z m. r.goes u size z m) (λ u m. inr n) f h

all-nodes : (above : ℕ) (ds : List Described) → spell_all (above + 1) ds [] ≡ spell_definitions node_count above ds
all-nodes above [] = refl
all-nodes above (d ∷ ds) = on_first d.description ∙ ap (spell_described node_count above d.description d.written) (all-nodes 0 ds)
  where
    on_first : (e : Description) → spell_first (above + 1) e d.written (spell_all 1 ds []) ≡ spell_described node_count above e d.written (spell_all 1 ds [])
    on_first None = refl
    on_first (Some x) = refl

pub schema-read : (a b : Ahead) (ds : List SchemaDef) → Definitions a b ds → NotEmpty ds → b.source ≡ ended → ReadSchema a b ds
schema-read a b ds r h n = record {
  written = r.written;
  viewed = r.viewed;
  read = λ size z. r.goes tt size z tt ∙ at_the_end size b.source r.written n (some-written r.written (subst NotEmpty (sym r.viewed) h));
  nodes = ap (λ xs. lay xs a) (sym (all-nodes 1 r.written)) ∙ r.nodes [];
}
  where
    at_the_end : (size : ℕ) (s : Source) (ds : List Described) → s ≡ ended → NotEmpty ds → run_on size (behind_all ds) s ≡ Ok ds
    at_the_end size s [] n h = absurd h
    at_the_end size s (d ∷ ds) n h = ap (run_on size (behind_all (d ∷ ds))) n

-- ---- words that begin no definition

pub unknown-word : (n : List ℕ) → false ≡ bytes_eq n (codes "schema") → false ≡ bytes_eq n (codes "scalar") → false ≡ bytes_eq n (codes "type") → false ≡ bytes_eq n (codes "interface")
    → false ≡ bytes_eq n (codes "union") → false ≡ bytes_eq n (codes "enum") → false ≡ bytes_eq n (codes "input") → false ≡ bytes_eq n (codes "directive") → machine.word_of n ≡ None
unknown-word n a b c d e f g h = rw (sym a, sym b, sym c, sym d, sym e, sym f, sym g, sym h) refl

pub fewer-behind : {T : Type 0} (r : Result T Fault) (x y z : ℕ) → OnOk r (x < y) → y ≤ z → OnOk r (x < z)
fewer-behind (Ok t) x y z h k = omega arith
fewer-behind (Err e) x y z h k = tt
