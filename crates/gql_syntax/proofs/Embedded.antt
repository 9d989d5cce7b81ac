-- A part that reads by itself reads as it does within a part that goes on behind it.
use Rattle.std.proofs.Common.{◌≡◌, ℕ, Bool, List, [], ◌∷◌, ◌++◌, Option, None, Result, Ok, Err, refl, ap, ◌∙◌}
use Rattle.gql_lex.specs.Sources.{Source, ended, faulty, token}
use Rattle.gql_lex.specs.Toks.{Tok, tok_of_piece}
use Rattle.gql_ast.specs.Value.{Val}
use Rattle.gql_syntax.specs.Machine.{want, outer, Given, Arguing, first, inside, more, then_argument, Applied, Directing, further, arguing, with_arguments}
use Rattle.gql_syntax.specs.Parts.{Part, goes, done, done_before, One, never, part_from, stops, value_alone, value_read, arguments_alone, arguments_read, directives_alone, directives_there}
use Rattle.gql_syntax.specs.Run.{Halt, unexpected, Stopped, stamp, code_of}
use Rattle.gql_syntax.specs.Steps.{resume, arguments_on, directives_on}
use Rattle.gql_syntax.specs.Texts.{nesting_limit}
use Rattle.gql_syntax.proofs.Moves.{from_here}
use Rattle.gql_syntax.proofs.PartLaws.{map_reading, map_arguing, same_value_step, same_arguments_step}

-- a step of the inner part, and the same step within the outer one
abbrev pub Within : {S V T W : Type 0} → (into : S → T) → (hand : V → T) → Result (Part S V) Halt → Result (Part T W) Halt → Type 0
Within into hand (Ok (goes s)) r = r ≡ Ok (goes (into s))
Within into hand (Ok (done v)) r = r ≡ Ok (goes (hand v))
Within into hand (Ok (done_before v)) r = ⊥
Within into hand (Err h) r = r ≡ Err h

-- the outer part goes on behind what the inner one has read
abbrev pub goes_on : {V T W : Type 0} → (step : T → Tok → Result (Part T W) Halt) → (ends : T → Option W) → (size : ℕ) → (hand : V → T) → Result (V × Source) Stopped → Result (W × Source) Stopped
goes_on step ends size hand (Ok r) = resume step ends size (goes (hand r.0)) r.1
goes_on step ends size hand (Err f) = Err f

module _ {S V T W : Type 0} (inner : S → Tok → Result (Part S V) Halt) (step : T → Tok → Result (Part T W) Halt) (ends : T → Option W) (size : ℕ) (into : S → T) (hand : V → T)
    (within : (s : S) (t : Tok) → Within into hand (inner s t) (step (into s) t)) (not_ended : (s : S) → ends (into s) ≡ None) where
  pub embedded : (src here : Source) (s : S) → resume step ends size (goes (into s)) src ≡ goes_on step ends size hand (part_from inner never size (Ok (goes s)) here src)
  embedded ended here s = ap (λ o. stops o ended (code_of unexpected, size)) (not_ended s)
  embedded (faulty code at) here s = ap (λ o. stops o (faulty code at) (code, at)) (not_ended s)
  embedded (token q behind) here s = on_step (inner s (tok_of_piece q)) (within s (tok_of_piece q)) (λ next. embedded behind (token q behind) next)
    where
      on_step : (r : Result (Part S V) Halt) → Within into hand r (step (into s) (tok_of_piece q))
          → ((next : S) → resume step ends size (goes (into next)) behind ≡ goes_on step ends size hand (part_from inner never size (Ok (goes next)) (token q behind) behind))
          → resume step ends size (goes (into s)) (token q behind) ≡ goes_on step ends size hand (part_from inner never size (stamp q.start r) (token q behind) behind)
      on_step (Ok (goes next)) f h = ap (λ r. part_from step ends size (stamp q.start r) (token q behind) behind) f ∙ from_here step ends size (goes (into next)) (token q behind) behind tt ∙ h next
      on_step (Ok (done v)) f h = ap (λ r. part_from step ends size (stamp q.start r) (token q behind) behind) f ∙ from_here step ends size (goes (hand v)) (token q behind) behind tt
      on_step (Ok (done_before v)) f h = absurd f
      on_step (Err x) f h = ap (λ r. part_from step ends size (stamp q.start r) (token q behind) behind) f

-- a value within an argument
abbrev pub behind_value : (g : Given One) → Val → Arguing One
behind_value g v = more g.constant (g.before ++ (g.name, v) ∷ []) g.on

pub value_inside : (size : ℕ) (g : Given One) (c : Bool) (room : ℕ) (src : Source)
    → arguments_on size (goes (inside (want c room (outer g)))) src ≡ goes_on (arguments_alone nesting_limit) never size (behind_value g) (value_read c room size src)
value_inside size g c room src =
    embedded value_alone (arguments_alone nesting_limit) never size (λ r. inside (map_reading (λ (o : One). g) r)) (behind_value g)
    (λ r t. same_value_step (λ (o : One). g) (Within (λ r. inside (map_reading (λ (o : One). g) r)) (behind_value g)) (λ h. refl) goes (λ r. goes (inside r)) (λ r. refl) (λ k v. done v)
    (then_argument nesting_limit goes (λ a xs. done xs)) (λ k v. refl) r t)
    (λ r. refl) src src (want c room (outer tt))

-- arguments within a directive
abbrev pub behind_arguments : (d : Applied One) → List (List ℕ × Val) → Directing One
behind_arguments d xs = further d.constant (with_arguments d xs) d.on

pub arguments_inside : (size : ℕ) (d : Applied One) (c : Bool) (src : Source)
    → directives_on size (goes (arguing (first c d))) src ≡ goes_on (directives_alone nesting_limit) directives_there size (behind_arguments d) (arguments_read nesting_limit c size src)
arguments_inside size d c src =
    embedded (arguments_alone nesting_limit) (directives_alone nesting_limit) directives_there size (λ r. arguing (map_arguing (λ (o : One). d) r)) (behind_arguments d)
    (λ r t. same_arguments_step (λ (o : One). d) nesting_limit (Within (λ r. arguing (map_arguing (λ (o : One). d) r)) (behind_arguments d)) (λ h. refl) goes (λ r. goes (arguing r)) (λ r. refl)
    (λ a xs. done xs) (λ a xs. goes (further a.constant (with_arguments a xs) a.on)) (λ a xs. refl) r t)
    (λ r. refl) src src (first c tt)
