-- Lists of inputs.
use Rattle.std.proofs.Common.{◌≡◌, ℕ, false, List, [], ◌∷◌, None, Ok, Err, refl, sym, subst}
use Rattle.gql_syntax.specs.gql_lex.Sources.{Source}
use Rattle.gql_syntax.specs.gql_lex.Toks as tok
use Rattle.gql_syntax.specs.gql_lex.Toks.{Tok, punctuator_of}
use Rattle.gql_syntax.specs.gql_ast.declared.directive.Directive.{Directive}
use Rattle.gql_syntax.specs.gql_ast.declared.member.InputTree.{InputTree}
use Rattle.gql_syntax.proofs.Tokens.{not_at}
use Rattle.gql_syntax.specs.Answers.{node_count}
use Rattle.gql_syntax.specs.Nexts.{is_at, next_is, Comes}
use Rattle.gql_syntax.specs.Run.{unexpected}
use Rattle.gql_syntax.specs.Texts.{nesting_limit}
use Rattle.gql_sdl.specs.Machine.{Front, Inputs, of_field, of_directive, of_object, State, inputs, after_inputs, close, advance, finish}
use Rattle.gql_sdl.specs.Reads.{run_on, InputsAt, inputs_at, input_at, opener, closer, MayOpen, MayInput, before_inputs, Undirected}
use Rattle.gql_sdl.specs.Schemas.{WrittenInput, NotEmpty, spell_input, spell_inputs, spell_argument_defs}
use Rattle.gql_sdl.proofs.Fronts.{inputs-then}
use Rattle.gql_sdl.proofs.Goings.{alike}
use Rattle.gql_sdl.proofs.Loops.{ListOf, ListLaws}

abbrev pub inputs_list : (opening closing : ℕ) → ListOf Inputs InputsAt WrittenInput InputTree
inputs_list opening closing = record {
  May = MayOpen opening closing;
  unopened = before_inputs;
  open_at = λ i ws. inputs i ws None;
  close_at = after_inputs;
  opening = opening;
  closing = closing;
  spells = spell_inputs node_count;
  whole = spell_argument_defs node_count;
  kept = λ w. w.input;
  at_member = λ i ws. record { inputs = i; before = ws };
  MayMember = MayInput;
  from = inputs_at;
  to = input_at;
  spell = spell_input node_count;
}

pub closed-some : {A : Type 0} (all : List A) (to : State) → NotEmpty all → close all None to ≡ Ok to
closed-some [] to h = absurd h
closed-some (a ∷ all) to h = refl

inputs-close : (i : Inputs) (ws : List WrittenInput) → NotEmpty ws → advance nesting_limit (inputs i ws None) (punctuator_of (closer i)) ≡ Ok (after_inputs i ws)
inputs-close (of_field f) ws h = closed-some ws _ h
inputs-close (of_directive f n) ws h = closed-some ws _ h
inputs-close (of_object f n ds) ws h = closed-some ws _ h

inputs-stop : (i : Inputs) → advance nesting_limit (inputs i [] None) (punctuator_of (closer i)) ≡ Err unexpected
inputs-stop (of_field f) = refl
inputs-stop (of_directive f n) = refl
inputs-stop (of_object f n ds) = refl

inputs-open : (i : Inputs) → advance nesting_limit (before_inputs i) (punctuator_of (opener i)) ≡ Ok (inputs i [] None)
inputs-open (of_field f) = refl
inputs-open (of_directive f n) = refl
inputs-open (of_object f n ds) = refl

whole-some : (ws : List WrittenInput) (ns : List ℕ) → NotEmpty ws → spell_argument_defs node_count ws ns ≡ 0 ∷ spell_inputs node_count ws (0 ∷ ns)
whole-some [] ns h = absurd h
whole-some (w ∷ ws) ns h = refl

pub inputs_laws : (opening closing : ℕ) → ListLaws (inputs_list opening closing)
inputs_laws opening closing = record {
  opens = λ i s m. subst (λ c. advance nesting_limit (before_inputs i) (punctuator_of c) ≡ Ok (inputs i [] None)) m.0 (inputs-open i);
  begins = λ i ws. refl;
  may_begin = λ i ws s there m n. subst (λ c. next_is c there ≡ false) (sym m.1) n;
  goes_on = λ i ws w. refl;
  spells_then = λ ws w ns. inputs-then node_count ws w ns;
  spells_none = λ ns. refl;
  whole_some = whole-some;
  closes = λ i s ws m h. subst (λ c. advance nesting_limit (inputs i ws None) (punctuator_of c) ≡ Ok (after_inputs i ws)) m.1 (inputs-close i ws h);
  stops_closed = λ i s m. subst (λ c. advance nesting_limit (inputs i [] None) (punctuator_of c) ≡ Err unexpected) m.1 (inputs-stop i);
  unfinished = λ i ws. refl;
}

pub inputs-absent : (opening closing : ℕ) (s : Source) → next_is opening s ≡ false → (i : Inputs) (size : ℕ) → MayOpen opening closing i s
    → run_on size (before_inputs i) s ≡ run_on size (after_inputs i []) s
inputs-absent opening closing s n i size m =
    alike size (before_inputs i) (after_inputs i []) s (same_end i)
    (λ t c. same i t c (subst (λ o. is_at o t ≡ false) (sym m.0) (not_at opening s t c n)) m.2)
  where
    same_end : (i : Inputs) → finish (before_inputs i) ≡ finish (after_inputs i [])
    same_end (of_field f) = refl
    same_end (of_directive f n) = refl
    same_end (of_object f n ds) = refl

    undirected : (f : Front) (n : List ℕ) (ds : List Directive) (t : Tok) → is_at 123 t ≡ false → is_at 64 t ≡ false
        → advance nesting_limit (before_inputs (of_object f n ds)) t ≡ advance nesting_limit (after_inputs (of_object f n ds) []) t
    undirected f n ds tok.open_brace e d = absurd (cc)
    undirected f n ds tok.at_sign e d = absurd (cc)
    undirected f n ds t e d = refl

    same : (i : Inputs) (t : Tok) → Comes s t → is_at (opener i) t ≡ false → Undirected i s → advance nesting_limit (before_inputs i) t ≡ advance nesting_limit (after_inputs i []) t
    same (of_field f) tok.open_paren c e d = absurd (cc)
    same (of_field f) t c e d = refl
    same (of_directive f n) tok.open_paren c e d = absurd (cc)
    same (of_directive f n) t c e d = refl
    same (of_object f n ds) t c e d = undirected f n ds t e (not_at 64 s t c d)
