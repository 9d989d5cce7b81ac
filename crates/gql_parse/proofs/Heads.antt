-- How the machine goes on in definitions and in variables, by what lies ahead.
use Rattle.std.proofs.Common.{◌≡◌, ◌≢◌, ℕ, Bool, true, false, cond, bytes_eq, List, [], ◌∷◌, ◌++◌, Option, Some, None, Result, Ok, Err, option_map, inl, inr, refl, sym, ap, subst, ◌∙◌, arith}
use Rattle.std.proofs.lemmas.Slice.Eq.{bytes_eq-Decides}
use Rattle.gql_syntax.specs.gql_lex.Sources.{Source, ended, faulty, token}
use Rattle.gql_syntax.specs.gql_lex.Toks as tok
use Rattle.gql_syntax.specs.gql_lex.Toks.{Tok, tok_of_piece}
use Rattle.gql_syntax.specs.gql_ast.Ty.{Ty}
use Rattle.gql_syntax.specs.gql_ast.TypeView.{ty_of}
use Rattle.gql_syntax.specs.gql_ast.Value.{Val}
use Rattle.gql_syntax.specs.gql_ast.ValueView.{value_of}
use Rattle.gql_syntax.specs.gql_ast.declared.directive.Directive.{Directive}
use Rattle.gql_syntax.specs.gql_ast.declared.document.Kind.{Kind}
use Rattle.gql_syntax.specs.gql_ast.declared.document.Kind.TheVariants.{Query, Mutation, Subscription}
use Rattle.gql_syntax.specs.gql_ast.declared.value.ValueTree.{ValueTree}
use Rattle.gql_syntax.specs.gql_ast.declared.variable.VariableDef.{VariableDef}
use Rattle.gql_parse.specs.Documents.{Written, fragment_word, spell_variables, spell_variables_part}
use Rattle.gql_parse.specs.Reads.{run_on, KindedAt, VariablesAt, behind_variables, variable_at}
use Rattle.gql_parse.specs.Machine.{Opening, Titled, VariableName, Typed, on_variable, on_operation, State, between, kinded, called, variables, dollar, variable_named, in_type, typed, in_value, fragment_begun, fragment_named, fragment_on, in_directives, advance, variables_with, with_default, other, word_of, begin_definition, fragment_name, fragment_condition}
use Rattle.gql_syntax.specs.Answers.{Tells, default_read, as_default}
use Rattle.gql_syntax.specs.Machine.{further, want, outer, want_type, whole}
use Rattle.gql_syntax.specs.Nexts.{behind, is_at, next_is, next_word, Comes, stopped_at}
use Rattle.gql_syntax.specs.Nexts as next
use Rattle.gql_syntax.specs.Parts.{value_read, type_read}
use Rattle.gql_syntax.specs.Reads.{MayDefine}
use Rattle.gql_syntax.specs.Run.{unexpected, Stopped}
use Rattle.gql_syntax.specs.Spelling.{Mark}
use Rattle.gql_syntax.specs.Texts.{nesting_limit}
use Rattle.gql_syntax.specs.Words.{on_word, kind_word}
use Rattle.gql_syntax.specs.declared.fault.Fault.{Fault}
use Rattle.gql_syntax.proofs.Tokens.{comes_at, no_word, not_at}
use Rattle.gql_syntax.proofs.BuiltTrees.{value_tree-value_of, type_tree-ty_of}
use Rattle.gql_parse.proofs.Courses.{tells-moves, comes_word, takes, refuses, alike, wants_name, wants_at, type_ok, type_err, value_ok, value_err, ok_parts}

no_bytes : (n w : List ℕ) → (n ≡ w → ⊥) → bytes_eq n w ≡ false
no_bytes n w h = by (bytes_eq n w) refl
  where
    by : (b : Bool) → bytes_eq n w ≡ b → bytes_eq n w ≡ false
    by true e = absurd (h (grind (arith, bytes_eq-Decides n w)))
    by false e = e

-- ---- what takes a token

abbrev pub name_of : VariablesAt → List ℕ → VariableName
name_of k n = record { opening = k.opening; before = k.before; name = n }

abbrev pub typed_of : VariablesAt → List ℕ → Ty → Typed
typed_of k n t = record { variable = name_of k n; of = t }

abbrev pub variable_read : VariablesAt → VariableDef → State
variable_read k v = variables k.opening (variables_with (typed_of k v.name (ty_of v.of)) v.default v.directives)

pub variable_whole : (k : VariablesAt) (v : VariableDef) → variable_read k v ≡ variable_at k v
variable_whole k v = ap (λ t. variables k.opening (k.before ++ record { name = v.name; of = t; default = v.default; directives = v.directives } ∷ [])) (type_tree-ty_of v.of)

pub variables_close : (o : Opening) (vs : List VariableDef) → vs ≢ [] → advance nesting_limit (variables o vs) tok.close_paren ≡ Ok (behind_variables o vs)
variables_close o [] h = absurd (h refl)
variables_close o (v ∷ vs) h = refl

pub kind_begins : (ws : List Written) (n : List ℕ) (k : Kind) → n ≡ kind_word k → advance nesting_limit (between ws) (tok.name n) ≡ Ok (kinded ws k)
kind_begins ws n k e = ap (λ m. begin_definition ws (word_of m)) e ∙ known k
  where
    known : (k : Kind) → begin_definition ws (word_of (kind_word k)) ≡ Ok (kinded ws k)
    known Query = refl
    known Mutation = refl
    known Subscription = refl

pub fragment_begins : (ws : List Written) (n : List ℕ) → bytes_eq n fragment_word ≡ true → advance nesting_limit (between ws) (tok.name n) ≡ Ok (fragment_begun ws)
fragment_begins ws n e = rw e refl

abbrev pub kinded_of : Kind → List Written → KindedAt
kinded_of kind ws = record { before = ws; kind = kind }

abbrev pub opening_of : Kind → Option (List ℕ) → List Written → Opening
opening_of kind n ws = record { before = ws; kind = kind; name = n }

abbrev pub titled_of : (name on : List ℕ) → List Written → Titled
titled_of n o ws = record { before = ws; name = n; on = o }

-- where the text ends, nothing has been read
pub none_before : (ws : List Written) (src : Source) → MayDefine ws src → src ≡ ended → ws ≡ []
none_before ws src (inl e) z = e
none_before ws src (inr n) z = absurd (n z)

module _ (size : ℕ) where
  -- ---- variables

  pub called_ends : (o : Opening) (src : Source) → next_is 40 src ≡ false → run_on size (called o) src ≡ run_on size (in_directives (further false [] (on_operation o []))) src
  called_ends o src e = alike size _ _ src refl (λ t c. on t (not_at 40 src t c e))
    where
      on : (t : Tok) → is_at 40 t ≡ false → advance nesting_limit (called o) t ≡ advance nesting_limit (in_directives (further false [] (on_operation o []))) t
      on tok.open_paren e = cc
      on t e = refl

  comes_close : (src : Source) → Comes src tok.close_paren → next_is 41 src ≡ true
  comes_close ended c = absurd c
  comes_close (faulty code at) c = absurd c
  comes_close (token p rest) c = subst (λ x. is_at 41 x ≡ true) (sym c) refl

  -- no variable stands there, and `)` only where none was read
  pub variable_missed : (o : Opening) (vs : List VariableDef) (src : Source) → (next_is 41 src ≡ true → vs ≡ []) → next_is 36 src ≡ false → run_on size (variables o vs) src ≡ Err (stopped_at size src)
  variable_missed o vs src h e = refuses size (variables o vs) src refl (λ t c. on vs t h c (not_at 36 src t c e))
    where
      on : (vs : List VariableDef) (t : Tok) → (next_is 41 src ≡ true → vs ≡ []) → Comes src t → is_at 36 t ≡ false → advance nesting_limit (variables o vs) t ≡ Err unexpected
      on vs tok.dollar h c e = cc
      on [] t h c e = refl
      on (v ∷ vs) tok.close_paren h c e = let none : v ∷ vs ≡ [] = h (comes_close src c) in cc
      on (v ∷ vs) t h c e = refl

  pub variable_name_missed : (o : Opening) (vs : List VariableDef) (src : Source) → next_word src ≡ None → run_on size (dollar o vs) src ≡ Err (stopped_at size src)
  variable_name_missed o vs src w = wants_name size (dollar o vs) src refl on w
    where
      on : (t : Tok) → next.word_of t ≡ None → advance nesting_limit (dollar o vs) t ≡ Err unexpected
      on (tok.name n) e = cc
      on t e = refl

  pub variable_colon_missed : (v : VariableName) (src : Source) → next_is 58 src ≡ false → run_on size (variable_named v) src ≡ Err (stopped_at size src)
  variable_colon_missed v src e = wants_at size 58 (variable_named v) src refl on e
    where
      on : (t : Tok) → is_at 58 t ≡ false → advance nesting_limit (variable_named v) t ≡ Err unexpected
      on tok.colon e = cc
      on t e = refl

  typed_ends : (v : Typed) (src : Source) → next_is 61 src ≡ false → run_on size (typed v) src ≡ run_on size (in_directives (further true [] (on_variable v None))) src
  typed_ends v src e = alike size _ _ src refl (λ t c. on t (not_at 61 src t c e))
    where
      on : (t : Tok) → is_at 61 t ≡ false → advance nesting_limit (typed v) t ≡ advance nesting_limit (in_directives (further true [] (on_variable v None))) t
      on tok.equals e = cc
      on t e = refl

  default_begins : (v : Typed) (src : Source) → next_is 61 src ≡ true → run_on size (typed v) src ≡ run_on size (in_value (want true nesting_limit (outer v))) (behind src)
  default_begins v src e = takes size (typed v) (in_value (want true nesting_limit (outer v))) tok.equals src (comes_at 61 src e) refl

  default_is : (v : Typed) (x : Val) (d : Option ValueTree) → Some x ≡ option_map value_of d → with_default v x ≡ in_directives (further true [] (on_variable v d))
  default_is v x None e = cc
  default_is v x (Some y) e =
      let same : x ≡ value_of y = cc in
      ap (λ z. with_default v z) same ∙ ap (λ z. in_directives (further true [] (on_variable v (Some z)))) (value_tree-value_of y)

  default_ok : (v : Typed) (src : Source) (d : Option ValueTree) (rest : Source) → default_read size src ≡ Ok (option_map value_of d, rest)
      → run_on size (typed v) src ≡ run_on size (in_directives (further true [] (on_variable v d))) rest
  default_ok v src d rest e = by (next_is 61 src) refl e
    where
      read : (r : Result (Val × Source) Stopped) → value_read true nesting_limit size (behind src) ≡ r → as_default r ≡ Ok (option_map value_of d, rest)
          → run_on size (in_value (want true nesting_limit (outer v))) (behind src) ≡ run_on size (in_directives (further true [] (on_variable v d))) rest
      read (Ok r) a e =
          let same = ok_parts (Some r.0) (option_map value_of d) r.1 rest e in
          value_ok size v (behind src) r.0 r.1 a ∙ ap (λ x. run_on size x r.1) (default_is v r.0 d same.0) ∙ ap (λ s. run_on size (in_directives (further true [] (on_variable v d))) s) same.1
      read (Err s) a e = cc

      none : (d : Option ValueTree) → None ≡ option_map value_of d → None ≡ d
      none None e = refl
      none (Some y) e = cc

      by : (b : Bool) → next_is 61 src ≡ b → cond b (as_default (value_read true nesting_limit size (behind src))) (Ok (None, src)) ≡ Ok (option_map value_of d, rest)
          → run_on size (typed v) src ≡ run_on size (in_directives (further true [] (on_variable v d))) rest
      by true a e = default_begins v src a ∙ read (value_read true nesting_limit size (behind src)) refl e
      by false a e =
          let same = ok_parts None (option_map value_of d) src rest e in
          typed_ends v src a ∙ ap (λ y. run_on size (in_directives (further true [] (on_variable v y))) src) (none d same.0) ∙ ap (λ s. run_on size (in_directives (further true [] (on_variable v d))) s) same.1

  default_err : (v : Typed) (src : Source) (s : Stopped) → default_read size src ≡ Err s → run_on size (typed v) src ≡ Err s
  default_err v src s e = by (next_is 61 src) refl e
    where
      read : (r : Result (Val × Source) Stopped) → value_read true nesting_limit size (behind src) ≡ r → as_default r ≡ Err s → run_on size (in_value (want true nesting_limit (outer v))) (behind src) ≡ Err s
      read (Ok r) a e = cc
      read (Err x) a e = let same : x ≡ s = cc in value_err size v (behind src) x a ∙ ap (λ z. Err z) same

      by : (b : Bool) → next_is 61 src ≡ b → cond b (as_default (value_read true nesting_limit size (behind src))) (Ok (None, src)) ≡ Err s → run_on size (typed v) src ≡ Err s
      by true a e = default_begins v src a ∙ read (value_read true nesting_limit size (behind src)) refl e
      by false a e = cc

  pub variable_ends : (v : Typed) (d : Option ValueTree) (ds : List Directive) (src : Source) → next_is 64 src ≡ false
      → run_on size (in_directives (further true ds (on_variable v d))) src ≡ run_on size (variables v.variable.opening (variables_with v d ds)) src
  variable_ends v d ds src a = alike size _ _ src refl (λ t c. on t (not_at 64 src t c a))
    where
      on : (t : Tok) → is_at 64 t ≡ false → advance nesting_limit (in_directives (further true ds (on_variable v d))) t ≡ advance nesting_limit (variables v.variable.opening (variables_with v d ds)) t
      on tok.at_sign a = cc
      on t a = refl

  -- ---- definitions

  no_definition : (n : List ℕ) → bytes_eq n fragment_word ≡ false → ((k : Kind) → n ≡ kind_word k → ⊥) → word_of n ≡ other
  no_definition n f h = rw (f, no_bytes n (kind_word Query) (h Query), no_bytes n (kind_word Mutation) (h Mutation), no_bytes n (kind_word Subscription) (h Subscription)) refl

  -- no definition begins there, and the text ends there only where none was read
  unread : (ws : List Written) (src : Source) → (src ≡ ended → ws ≡ []) → ((t : Tok) → Comes src t → advance nesting_limit (between ws) t ≡ Err unexpected) → run_on size (between ws) src ≡ Err (stopped_at size src)
  unread [] src e h = refuses size (between []) src refl h
  unread (w ∷ ws) ended e h = let none : w ∷ ws ≡ [] = e refl in cc
  unread (w ∷ ws) (faulty code at) e h = refl
  unread (w ∷ ws) (token p rest) e h = refuses_token (h (tok_of_piece p) refl)
    where
      refuses_token : advance nesting_limit (between (w ∷ ws)) (tok_of_piece p) ≡ Err unexpected → run_on size (between (w ∷ ws)) (token p rest) ≡ Err (stopped_at size (token p rest))
      refuses_token e = ap (λ r. Rattle.gql_parse.proofs.Courses.taken size p rest r) e

  pub definition_missed : (ws : List Written) (src : Source) → (src ≡ ended → ws ≡ []) → next_is 123 src ≡ false → next_word src ≡ None → run_on size (between ws) src ≡ Err (stopped_at size src)
  definition_missed ws src e a w = unread ws src e (λ t c. on t (not_at 123 src t c a) (no_word src t c w))
    where
      on : (t : Tok) → is_at 123 t ≡ false → next.word_of t ≡ None → advance nesting_limit (between ws) t ≡ Err unexpected
      on (tok.name n) a w = cc
      on tok.open_brace a w = cc
      on t a w = refl

  pub definition_unknown : (ws : List Written) (n : List ℕ) (src : Source) → (src ≡ ended → ws ≡ []) → next_word src ≡ Some n → bytes_eq n fragment_word ≡ false → ((k : Kind) → n ≡ kind_word k → ⊥)
      → run_on size (between ws) src ≡ Err (stopped_at size src)
  definition_unknown ws n src e w f h = unread ws src e (λ t c. on t (comes_word (Some n) src t w c))
    where
      on : (t : Tok) → next.word_of t ≡ Some n → advance nesting_limit (between ws) t ≡ Err unexpected
      on (tok.name m) w = let same : m ≡ n = cc in ap (λ x. begin_definition ws (word_of x)) same ∙ ap (λ x. begin_definition ws x) (no_definition n f h)
      on t w = cc

  pub kinded_ends : (ws : List Written) (k : Kind) (src : Source) → next_word src ≡ None → run_on size (kinded ws k) src ≡ run_on size (called (record { before = ws; kind = k; name = None })) src
  kinded_ends ws k src e = alike size _ _ src refl (λ t c. on t (no_word src t c e))
    where
      on : (t : Tok) → next.word_of t ≡ None → advance nesting_limit (kinded ws k) t ≡ advance nesting_limit (called (record { before = ws; kind = k; name = None })) t
      on (tok.name n) e = cc
      on t e = refl

  pub fragment_named_on : (ws : List Written) (n : List ℕ) (src : Source) → next_word src ≡ Some n → bytes_eq n on_word ≡ true → run_on size (fragment_begun ws) src ≡ Err (stopped_at size src)
  fragment_named_on ws n src w e = refuses size (fragment_begun ws) src refl (λ t c. on t (comes_word (Some n) src t w c))
    where
      on : (t : Tok) → next.word_of t ≡ Some n → advance nesting_limit (fragment_begun ws) t ≡ Err unexpected
      on (tok.name m) w = let same : m ≡ n = cc in ap (λ x. fragment_name ws x (bytes_eq x on_word)) same ∙ ap (λ b. fragment_name ws n b) e
      on t w = cc

  pub fragment_name_missed : (ws : List Written) (src : Source) → next_word src ≡ None → run_on size (fragment_begun ws) src ≡ Err (stopped_at size src)
  fragment_name_missed ws src w = wants_name size (fragment_begun ws) src refl on w
    where
      on : (t : Tok) → next.word_of t ≡ None → advance nesting_limit (fragment_begun ws) t ≡ Err unexpected
      on (tok.name n) e = cc
      on t e = refl

  pub fragment_condition_missed : (ws : List Written) (n : List ℕ) (src : Source) → (next_word src ≡ Some on_word → ⊥) → run_on size (fragment_named ws n) src ≡ Err (stopped_at size src)
  fragment_condition_missed ws n src h = refuses size (fragment_named ws n) src refl (λ t c. on t c)
    where
      words : (src : Source) (m : List ℕ) → Comes src (tok.name m) → next_word src ≡ Some m
      words ended m c = absurd c
      words (faulty code at) m c = absurd c
      words (token p rest) m c = ap next.word_of c

      on : (t : Tok) → Comes src t → advance nesting_limit (fragment_named ws n) t ≡ Err unexpected
      on (tok.name m) c = ap (λ b. fragment_condition ws n b) (no_bytes m on_word (λ e. h (words src m c ∙ ap (λ x. Some x) e)))
      on t c = refl

  pub fragment_type_missed : (ws : List Written) (n : List ℕ) (src : Source) → next_word src ≡ None → run_on size (fragment_on ws n) src ≡ Err (stopped_at size src)
  fragment_type_missed ws n src w = wants_name size (fragment_on ws n) src refl on w
    where
      on : (t : Tok) → next.word_of t ≡ None → advance nesting_limit (fragment_on ws n) t ≡ Err unexpected
      on (tok.name m) e = cc
      on t e = refl

-- ---- what readers answer, where the size is told of a later text that is the same

pub type_goes : (m n : ℕ) (v : VariableName) (src : Source) (t : Ty) (rest : Source) → m ≡ n → type_read nesting_limit m src ≡ Ok (t, rest)
    → run_on n (in_type (want_type nesting_limit (whole v))) src ≡ run_on n (typed (record { variable = v; of = t })) rest
type_goes m n v src t rest e h = type_ok n v src t rest (subst (λ k. type_read nesting_limit k src ≡ Ok (t, rest)) e h)

pub type_tells : (m n : ℕ) (v : VariableName) (src : Source) (x : Fault) → m ≡ n → Tells x (type_read nesting_limit m src) → Tells x (run_on n (in_type (want_type nesting_limit (whole v))) src)
type_tells m n v src x e h = tells-moves x (run_on n (in_type (want_type nesting_limit (whole v))) src) (type_read nesting_limit n src) (type_err n v src) (subst (λ k. Tells x (type_read nesting_limit k src)) e h)

pub default_goes : (m n : ℕ) (v : Typed) (src : Source) (d : Option ValueTree) (rest : Source) → m ≡ n → default_read m src ≡ Ok (option_map value_of d, rest)
    → run_on n (typed v) src ≡ run_on n (in_directives (further true [] (on_variable v d))) rest
default_goes m n v src d rest e h = default_ok n v src d rest (subst (λ k. default_read k src ≡ Ok (option_map value_of d, rest)) e h)

pub default_tells : (m n : ℕ) (v : Typed) (src : Source) (x : Fault) → m ≡ n → Tells x (default_read m src) → Tells x (run_on n (typed v) src)
default_tells m n v src x e h = tells-moves x (run_on n (typed v) src) (default_read n src) (default_err n v src) (subst (λ k. Tells x (default_read k src)) e h)

-- variables with their parentheses, where there are some
pub variables_part : {X : Type 0} (mark : Mark X) (vs : List VariableDef) (ns : List X) → vs ≢ []
    → spell_variables_part mark vs ns ≡ mark tok.open_paren 0 0 ∷ spell_variables mark vs (mark tok.close_paren 0 0 ∷ ns)
variables_part mark [] ns h = absurd (h refl)
variables_part mark (v ∷ vs) ns h = refl
