-- A machine for which the laws hold gives the one tree of a text, or its first fault.
use Rattle.std.proofs.Common.{◌≡◌, ◌≤◌, ◌<◌, ℕ, ◌+◌, List, [], ◌∷◌, ◌++◌, map, length, take, slice_index, option_map, Option, Some, None, Result, Ok, Err, IsUtf8, refl, sym, ap, subst, ◌∙◌, inl, inr, arith, append_assoc, append-nil}
use Rattle.std.proofs.lemmas.List.{map-append, length-map, take_at}
use Rattle.gql_lex.specs.Lines.{place_at}
use Rattle.gql_lex.specs.Sources.{Source, ended, faulty, token, lex_from}
use Rattle.gql_lex.specs.Toks.{Tok, tok_of_piece, toks_of}
use Rattle.gql_ast.specs.declared.fault.ParseFault.TheVariants.{Syntax}
use Rattle.gql_ast.specs.declared.fault.SyntaxFault.{SyntaxFault}
use Rattle.gql_ast.specs.declared.place.FilePlace.{FilePlace}
use Rattle.gql_syntax.specs.FirstFault.{Grammar, Leads, Spells, Shallow, Begins, Unexpected, TooDeep, IsFirstFault}
use Rattle.gql_syntax.specs.Places.{place_nodes}
use Rattle.gql_syntax.specs.Run.{Halt, unexpected, too_deep, code_of, Stopped, stamp, at_end, run_from, run}
use Rattle.gql_syntax.specs.Texts.{nesting_limit, IsTree, FaultAtOffset, not_utf8, IsParseFault}
use Rattle.gql_syntax.proofs.Forms.{AreToks, AreAhead, toks-append, toks_form, read_form, forms}
use Rattle.gql_syntax.proofs.Laws.{Leveled, Machine, Laws, reach_from, reach, Finishes, CanEnd, Stepped}

abbrev pub toks : List Leveled → List Tok
toks read = map (λ (p : Leveled). p.0) read

abbrev pub levels_read : List Leveled → List ℕ
levels_read read = map (λ (p : Leveled). p.1) read

-- ---- tokens read one behind the other

pub reach_failed : {S : Type 0} (step : S → Tok → Result S Halt) (h : Halt) (ts : List Tok) → reach_from step (Err h) ts ≡ Err h
reach_failed step h ts = refl

pub reach-append : {S : Type 0} (step : S → Tok → Result S Halt) (r : Result S Halt) (xs ys : List Tok)
    → reach_from step r (xs ++ ys) ≡ reach_from step (reach_from step r xs) ys
reach-append step (Err h) xs ys = refl
reach-append step (Ok s) [] ys = refl
reach-append step (Ok s) (t ∷ xs) ys = reach-append step (step s t) xs ys

leads-push : (ts : List Tok) (t : Tok) (from to : Source) (rest : Source) → Leads ts from to → Leads (t ∷ []) to rest → Leads (ts ++ t ∷ []) from rest
leads-push [] t from to rest h l = subst (λ s. Leads (t ∷ []) s rest) (sym h) l
leads-push (x ∷ ts) t ended to rest h l = absurd h
leads-push (x ∷ ts) t (faulty code at) to rest h l = absurd h
leads-push (x ∷ ts) t (token p from) to rest h l = (h.0, leads-push ts t from to rest h.1 l)

-- ---- a limit for any levels

levels_sum : List ℕ → ℕ
levels_sum [] = 0
levels_sum (l ∷ ls) = l + levels_sum ls

shallow_within : (k : ℕ) (ls : List ℕ) → levels_sum ls ≤ k → Shallow k ls
unfolding levels_sum
shallow_within k [] h = tt
shallow_within k (l ∷ ls) h = (omega (arith, h), shallow_within k ls (omega (arith, h)))

shallow_wider : (k limit : ℕ) (ls : List ℕ) → Shallow limit ls → Shallow (k + limit) ls
shallow_wider k limit [] h = tt
shallow_wider k limit (l ∷ ls) h = (omega (arith, h.0), shallow_wider k limit ls h.1)

shallow-push : (limit l : ℕ) (ls : List ℕ) → Shallow limit ls → l ≤ limit → Shallow limit (ls ++ l ∷ [])
shallow-push limit l [] h e = (e, tt)
shallow-push limit l (x ∷ ls) h e = (h.0, shallow-push limit l ls h.1 e)

index_behind : (xs : List ℕ) (y : ℕ) (ys : List ℕ) → slice_index (xs ++ y ∷ ys) (length xs) ≡ y
index_behind [] y ys = refl
index_behind (x ∷ xs) y ys = index_behind xs y ys

-- ---- where a machine stands behind tokens that were read

pub record Came {S V : Type 0} (m : Machine S V) (limit : ℕ) (read : List Leveled) (s : S) : Type 0 where
  pub front : (ts : List Leveled) → m.so_far s ts ≡ read ++ ts
  pub reached : reach (m.step limit) (m.start limit) (toks read) ≡ Ok s
  pub seated : m.Seated limit s
  pub shallow : Shallow limit (levels_read read)

-- and then behind those tokens too
record GoesOn {S V : Type 0} (m : Machine S V) (limit : ℕ) (read : List Leveled) (last : S) (ts : List Tok) : Type 0 where
  more : List Leveled
  came : Came m limit (read ++ more) last
  tokens : toks more ≡ ts

module _ {S V : Type 0} (g : Grammar V) (m : Machine S V) (laws : Laws g m) where
  pub came_start : (limit : ℕ) → Came m limit [] (m.start limit)
  came_start limit = record { front = laws.empty limit; reached = refl; seated = laws.begins limit; shallow = tt }

  pub came_step : (limit : ℕ) (read : List Leveled) (s : S) (t : Tok) (next : S) → Came m limit read s → m.step limit s t ≡ Ok next
      → Came m limit (read ++ (t, m.level_at s t) ∷ []) next
  came_step limit read s t next c e = record {
    front = λ ts. laws.sound limit s t next c.seated e ts ∙ c.front ((t, m.level_at s t) ∷ ts) ∙ sym (append_assoc read ((t, m.level_at s t) ∷ []) ts);
    reached = ap (λ w. reach (m.step limit) (m.start limit) w) (map-append (λ (p : Leveled). p.0) read ((t, m.level_at s t) ∷ []))
        ∙ reach-append (m.step limit) (Ok (m.start limit)) (toks read) (t ∷ [])
        ∙ ap (λ r. reach_from (m.step limit) r (t ∷ [])) c.reached
        ∙ ap (λ r. reach_from (m.step limit) r []) e;
    seated = laws.seated limit s t next c.seated e;
    shallow = subst (λ ls. Shallow limit ls) (sym (map-append (λ (p : Leveled). p.1) read ((t, m.level_at s t) ∷ [])))
        (shallow-push limit (m.level_at s t) (levels_read read) c.shallow (laws.shallow limit s t next c.seated e));
  }

  reach-lift : (k limit : ℕ) (s : S) (ts : List Tok) (last : S) → reach (m.step limit) s ts ≡ Ok last
      → reach (m.step (k + limit)) (m.lift k s) ts ≡ Ok (m.lift k last)
  reach-lift k limit s [] last e = ap (λ (r : Result S Halt). lift_of r) e
    where
      lift_of : Result S Halt → Result S Halt
      lift_of (Ok s) = Ok (m.lift k s)
      lift_of (Err h) = Err h
  reach-lift k limit s (t ∷ ts) last e = on_step (m.step limit s t) refl e (λ next e. reach-lift k limit next ts last e)
    where
      on_step : (r : Result S Halt) → m.step limit s t ≡ r → reach_from (m.step limit) r ts ≡ Ok last
          → ((next : S) → reach (m.step limit) next ts ≡ Ok last → reach (m.step (k + limit)) (m.lift k next) ts ≡ Ok (m.lift k last))
          → reach (m.step (k + limit)) (m.lift k s) (t ∷ ts) ≡ Ok (m.lift k last)
      on_step (Ok next) d e h = ap (λ r. reach_from (m.step (k + limit)) r ts) (laws.lift_step k limit s t next d) ∙ h next e
      on_step (Err f) d e h = cc

  -- ---- a machine with a greater limit stands where this one does

  pub came_lift : (k limit : ℕ) (read : List Leveled) (s : S) → Came m limit read s → Came m (k + limit) read (m.lift k s)
  came_lift k limit read s c = record {
    front = λ ts. laws.lift_so_far k s ts ∙ c.front ts;
    reached = ap (λ x. reach (m.step (k + limit)) x (toks read)) (sym (laws.lift_start k limit)) ∙ reach-lift k limit (m.start limit) (toks read) s c.reached;
    seated = laws.lift_seated k limit s c.seated;
    shallow = shallow_wider k limit (levels_read read) c.shallow;
  }

  goes_on : (limit : ℕ) (read : List Leveled) (s : S) (ts : List Tok) (last : S) → Came m limit read s → reach (m.step limit) s ts ≡ Ok last → GoesOn m limit read last ts
  goes_on limit read s [] last c e = record {
    more = [];
    came = subst (λ w. Came m limit w last) (sym (append-nil read)) (subst (λ x. Came m limit read x) same c);
    tokens = refl;
  }
    where
      same : s ≡ last
      same = cc
  goes_on limit read s (t ∷ ts) last c e =
      on_step (m.step limit s t) refl e (λ next c e. goes_on limit (read ++ (t, m.level_at s t) ∷ []) next ts last c e)
    where
      on_step : (r : Result S Halt) → m.step limit s t ≡ r → reach_from (m.step limit) r ts ≡ Ok last
          → ((next : S) → Came m limit (read ++ (t, m.level_at s t) ∷ []) next → reach (m.step limit) next ts ≡ Ok last → GoesOn m limit (read ++ (t, m.level_at s t) ∷ []) last ts)
          → GoesOn m limit read last (t ∷ ts)
      on_step (Ok next) d e h =
          let more = h next (came_step limit read s t next c d) e in
          record {
            more = (t, m.level_at s t) ∷ more.more;
            came = subst (λ w. Came m limit w last) (append_assoc read ((t, m.level_at s t) ∷ []) more.more) more.came;
            tokens = ap (λ w. t ∷ w) more.tokens;
          }
      on_step (Err f) d e h = cc

  -- what was read to the end is written so
  written_whole : (limit : ℕ) (read : List Leveled) (s : S) (v : V) → Came m limit read s → m.finish s ≡ Some v
      → (g.tokens v ≡ toks read) × (g.levels v ≡ levels_read read) × (AreToks (toks read) → g.Formed v) × Shallow limit (g.levels v)
  written_whole limit read s v c e =
      let w = laws.written limit s v c.seated e in
      let same : m.so_far s [] ≡ read = c.front [] ∙ append-nil read in
      let ls : g.levels v ≡ levels_read read = sym w.levels ∙ ap levels_read same in
      let ts : g.tokens v ≡ toks read = sym w.tokens ∙ ap toks same in
      (ts, ls, (λ f. w.formed (subst AreToks (sym ts) f)), subst (λ ls. Shallow limit ls) (sym ls) c.shallow)

  -- ---- a text that is read to its end

  pub found_from : (limit size : ℕ) (source : Source) (read : List Leveled) (s : S) (v : V) → Came m limit read s
      → run (m.step limit) m.finish size s source ≡ Ok v
      → (option_map (λ ts. toks read ++ ts) (toks_of source) ≡ Some (g.tokens v)) × (AreToks (g.tokens v) → g.Formed v) × Shallow limit (g.levels v)
  found_from limit size ended read s v c e = on_end (m.finish s) refl e
    where
      on_end : (r : Option V) → m.finish s ≡ r → at_end size r ≡ Ok v → (Some (toks read ++ []) ≡ Some (g.tokens v)) × (AreToks (g.tokens v) → g.Formed v) × Shallow limit (g.levels v)
      on_end (Some w) d e =
          let same : w ≡ v = cc in
          let whole = written_whole limit read s v c (d ∙ ap (λ x. Some x) same) in
          (ap (λ x. Some x) (append-nil (toks read) ∙ sym whole.0), (λ f. whole.2 (subst AreToks whole.0 f)), whole.3)
      on_end None d e = cc
  found_from limit size (faulty code at) read s v c e = cc
  found_from limit size (token p rest) read s v c e =
      on_step (m.step limit s (tok_of_piece p)) refl e (λ next c e. found_from limit size rest (read ++ (tok_of_piece p, m.level_at s (tok_of_piece p)) ∷ []) next v c e)
    where
      on_step : (r : Result S Halt) → m.step limit s (tok_of_piece p) ≡ r → run_from (m.step limit) m.finish size (stamp p.start r) rest ≡ Ok v
          → ((next : S) → Came m limit (read ++ (tok_of_piece p, m.level_at s (tok_of_piece p)) ∷ []) next → run (m.step limit) m.finish size next rest ≡ Ok v
          → (option_map (λ ts. toks (read ++ (tok_of_piece p, m.level_at s (tok_of_piece p)) ∷ []) ++ ts) (toks_of rest) ≡ Some (g.tokens v)) × (AreToks (g.tokens v) → g.Formed v) × Shallow limit (g.levels v))
          → (option_map (λ ts. toks read ++ ts) (toks_of (token p rest)) ≡ Some (g.tokens v)) × (AreToks (g.tokens v) → g.Formed v) × Shallow limit (g.levels v)
      on_step (Ok next) d e h =
          let more = h next (came_step limit read s (tok_of_piece p) next c d) e in
          (one_more (toks_of rest) ∙ more.0, more.1, more.2)
        where
          one_more : (o : Option (List Tok))
              → option_map (λ ts. toks read ++ ts) (option_map (λ ts. tok_of_piece p ∷ ts) o)
              ≡ option_map (λ ts. toks (read ++ (tok_of_piece p, m.level_at s (tok_of_piece p)) ∷ []) ++ ts) o
          one_more None = refl
          one_more (Some ts) = ap (λ x. Some x)
              (sym (append_assoc (toks read) (tok_of_piece p ∷ []) ts)
              ∙ ap (λ w. w ++ ts) (sym (map-append (λ (p : Leveled). p.0) read ((tok_of_piece p, m.level_at s (tok_of_piece p)) ∷ []))))
      on_step (Err f) d e h = cc

  pub found : (limit size : ℕ) (source : Source) (v : V) → AreAhead source → run (m.step limit) m.finish size (m.start limit) source ≡ Ok v
      → (toks_of source ≡ Some (g.tokens v)) × g.Formed v × Shallow limit (g.levels v)
  found limit size source v a e =
      let whole = found_from limit size source [] (m.start limit) v (came_start limit) e in
      let tokens : toks_of source ≡ Some (g.tokens v) = same (toks_of source) ∙ whole.0 in
      (tokens, whole.1 (toks_form source (g.tokens v) a tokens), whole.2)
    where
      same : (o : Option (List Tok)) → o ≡ option_map (λ ts. [] ++ ts) o
      same None = refl
      same (Some ts) = refl

  pub only_from : (limit size : ℕ) (source : Source) (s : S) (ts : List Tok) (v : V) → Finishes m limit s ts v → toks_of source ≡ Some ts
      → run (m.step limit) m.finish size s source ≡ Ok v
  only_from limit size ended s ts v f e = on_tokens ts f (cc)
    where
      on_tokens : (ts : List Tok) → Finishes m limit s ts v → [] ≡ ts → at_end size (m.finish s) ≡ Ok v
      on_tokens [] f e = ap (λ x. at_end size (m.finish x)) same ∙ ap (λ o. at_end size o) f.finished
        where
          same : s ≡ f.last
          same = cc f.reached
      on_tokens (t ∷ ts) f e = cc
  only_from limit size (faulty code at) s ts v f e = cc
  only_from limit size (token p rest) s ts v f e = on_rest (toks_of rest) refl e (λ us next d r. only_from limit size rest next us v (record { last = f.last; reached = r; finished = f.finished }) d)
    where
      on_step : (us : List Tok) → toks_of rest ≡ Some us → (r : Result S Halt) → m.step limit s (tok_of_piece p) ≡ r → reach_from (m.step limit) r us ≡ Ok f.last
          → ((us : List Tok) (next : S) → toks_of rest ≡ Some us → reach (m.step limit) next us ≡ Ok f.last → run (m.step limit) m.finish size next rest ≡ Ok v) → run (m.step limit) m.finish size s (token p rest) ≡ Ok v
      on_step us b (Ok next) d e h = ap (λ r. run_from (m.step limit) m.finish size (stamp p.start r) rest) d ∙ h us next b e
      on_step us b (Err x) d e h = cc

      on_rest : (o : Option (List Tok)) → toks_of rest ≡ o → option_map (λ ts. tok_of_piece p ∷ ts) o ≡ Some ts → ((us : List Tok) (next : S) → toks_of rest ≡ Some us → reach (m.step limit) next us ≡ Ok f.last → run (m.step limit) m.finish size next rest ≡ Ok v) → run (m.step limit) m.finish size s (token p rest) ≡ Ok v
      on_rest None d e h = cc
      on_rest (Some us) d e h = let same : tok_of_piece p ∷ us ≡ ts = cc e in
          on_step us d (m.step limit s (tok_of_piece p)) refl (ap (λ ts. reach (m.step limit) s ts) same ∙ f.reached) h

  pub only : (limit size : ℕ) (source : Source) (v : V) → g.Formed v → Shallow limit (g.levels v) → toks_of source ≡ Some (g.tokens v)
      → run (m.step limit) m.finish size (m.start limit) source ≡ Ok v
  only limit size source v formed shallow e = only_from limit size source (m.start limit) (g.tokens v) v (laws.complete limit v formed shallow) e

  -- ---- a fault

  -- what a machine with a greater limit does behind the tokens that were read, with a tree whose text begins so
  record Reads (limit k : ℕ) (s : S) (ts : List Tok) (v : V) : Type 0 where
    last : S
    reached : reach (m.step (k + limit)) (m.lift k s) ts ≡ Ok last
    finished : m.finish last ≡ Some v

  reads : (limit : ℕ) (read : List Leveled) (s : S) (ts : List Tok) (v : V) → Came m limit read s → Spells g (toks read ++ ts) v
      → (k : ℕ) × Reads limit k s ts v
  reads limit read s ts v c h = (
    levels_sum (g.levels v),
    record {
      last = f.last;
      reached = ap (λ r. reach_from (m.step (levels_sum (g.levels v) + limit)) r ts) (sym wide.reached)
          ∙ sym (reach-append (m.step (levels_sum (g.levels v) + limit)) (Ok (m.start (levels_sum (g.levels v) + limit))) (toks read) ts)
          ∙ ap (λ w. reach (m.step (levels_sum (g.levels v) + limit)) (m.start (levels_sum (g.levels v) + limit)) w) (sym h.spelled)
          ∙ f.reached;
      finished = f.finished;
    },
  )
    where
      f : Finishes m (levels_sum (g.levels v) + limit) (m.start (levels_sum (g.levels v) + limit)) (g.tokens v) v
      f = laws.complete (levels_sum (g.levels v) + limit) v h.formed (shallow_within (levels_sum (g.levels v) + limit) (g.levels v) (omega arith))

      wide : Came m (levels_sum (g.levels v) + limit) read (m.lift (levels_sum (g.levels v)) s)
      wide = came_lift (levels_sum (g.levels v)) limit read s c

  ends_none : (limit : ℕ) (read : List Leveled) (s : S) → Came m limit read s → m.finish s ≡ None → (v : V) → Spells g (toks read) v → ⊥
  ends_none limit read s c d v h = refused (reads limit read s [] v c (subst (λ w. Spells g w v) (sym (append-nil (toks read))) h))
    where
      refused : (k : ℕ) × Reads limit k s [] v → ⊥
      refused r =
          let same : m.lift r.0 s ≡ r.1.last = cc r.1.reached in
          let e : Some v ≡ None = sym r.1.finished ∙ ap m.finish (sym same) ∙ laws.lift_finish r.0 s ∙ d in
          cc

  stops_unexpected : (limit : ℕ) (read : List Leveled) (s : S) (t : Tok) → Came m limit read s → m.step limit s t ≡ Err unexpected → Unexpected g (toks read) t
  stops_unexpected limit read s t c d behind v h = refused (reads limit read s (t ∷ behind) v c h)
    where
      refused : (k : ℕ) × Reads limit k s (t ∷ behind) v → ⊥
      refused r =
          let e : Err unexpected ≡ Ok r.1.last = ap (λ x. reach_from (m.step (r.0 + limit)) x behind) (sym (laws.lift_unexpected r.0 limit s t d)) ∙ r.1.reached in
          cc

  -- some text goes on from here, if one more may stand in another
  record Text (limit : ℕ) (read : List Leveled) : Type 0 where
    behind : List Tok
    tree : V
    spells : Spells g (toks read ++ behind) tree
    more : List ℕ
    levels : g.levels tree ≡ levels_read read ++ more

  text_from : (limit : ℕ) (read : List Leveled) (s : S) → Came m limit read s → AreToks (toks read) → Text limit read
  text_from limit read s c f = of_end (laws.ends limit s c.seated)
    where
      of_end : CanEnd m (1 + limit) (m.lift 1 s) → Text limit read
      of_end e =
          let more : GoesOn m (1 + limit) read e.finishes.last e.behind = goes_on (1 + limit) read (m.lift 1 s) e.behind e.finishes.last (came_lift 1 limit read s c) e.finishes.reached in
          let whole = written_whole (1 + limit) (read ++ more.more) e.finishes.last e.tree more.came e.finishes.finished in
          let split : toks (read ++ more.more) ≡ toks read ++ e.behind = map-append (λ (p : Leveled). p.0) read more.more ∙ ap (λ w. toks read ++ w) more.tokens in
          record {
            behind = e.behind;
            tree = e.tree;
            spells = record {
              spelled = whole.0 ∙ split;
              formed = whole.2 (subst AreToks (sym split) (toks-append (toks read) e.behind f e.forms));
            };
            more = levels_read more.more;
            levels = whole.1 ∙ map-append (λ (p : Leveled). p.1) read more.more;
          }

  pub begins_from : (limit : ℕ) (read : List Leveled) (s : S) → Came m limit read s → AreToks (toks read) → Begins g limit (toks read)
  begins_from limit read s c f = of_text (text_from limit read s c f)
    where
      of_text : Text limit read → Begins g limit (toks read)
      of_text x = record {
        behind = x.behind;
        tree = x.tree;
        spells = x.spells;
        shallow = subst (λ ls. Shallow limit ls)
            (sym (ap (λ ls. take (length (toks read)) ls) x.levels
            ∙ take_at (levels_read read) x.more (length (toks read)) (length-map read (λ (p : Leveled). p.1) ∙ sym (length-map read (λ (p : Leveled). p.0)))))
            c.shallow;
      }

  stops_too_deep : (limit : ℕ) (read : List Leveled) (s : S) (t : Tok) → Came m limit read s → AreToks (toks read ++ t ∷ []) → m.step limit s t ≡ Err too_deep
      → TooDeep g limit (toks read) t
  stops_too_deep limit read s t c f d = of_step (laws.lift_too_deep limit s t d)
    where
      opened : (more : List Tok) (v : V) → (k : ℕ) × Reads limit k s (t ∷ more) v → slice_index (g.levels v) (length (toks read)) ≡ m.level_at s t
      opened more v r = on_step (m.step (r.0 + limit) (m.lift r.0 s) t) refl r.1.reached
        where
          on_step : (x : Result S Halt) → m.step (r.0 + limit) (m.lift r.0 s) t ≡ x → reach_from (m.step (r.0 + limit)) x more ≡ Ok r.1.last
              → slice_index (g.levels v) (length (toks read)) ≡ m.level_at s t
          on_step (Err h) d e = cc
          on_step (Ok next) d e =
              let here = came_step (r.0 + limit) read (m.lift r.0 s) t next (came_lift r.0 limit read s c) d in
              let on = goes_on (r.0 + limit) (read ++ (t, m.level_at (m.lift r.0 s) t) ∷ []) next more r.1.last here e in
              let whole = written_whole (r.0 + limit) ((read ++ (t, m.level_at (m.lift r.0 s) t) ∷ []) ++ on.more) r.1.last v on.came r.1.finished in
              let split : g.levels v ≡ levels_read read ++ m.level_at (m.lift r.0 s) t ∷ levels_read on.more =
              whole.1 ∙ ap levels_read (append_assoc read ((t, m.level_at (m.lift r.0 s) t) ∷ []) on.more) ∙ map-append (λ (p : Leveled). p.1) read ((t, m.level_at (m.lift r.0 s) t) ∷ on.more) in
              let long : length (toks read) ≡ length (levels_read read) = length-map read (λ (p : Leveled). p.0) ∙ sym (length-map read (λ (p : Leveled). p.1)) in
              ap (λ ls. slice_index ls (length (toks read))) split
              ∙ ap (λ n. slice_index (levels_read read ++ m.level_at (m.lift r.0 s) t ∷ levels_read on.more) n) long
              ∙ index_behind (levels_read read) (m.level_at (m.lift r.0 s) t) (levels_read on.more)
              ∙ laws.lift_level r.0 s t

      of_step : Stepped m (1 + limit) (m.lift 1 s) t → TooDeep g limit (toks read) t
      of_step n =
          let x = text_from (1 + limit) (read ++ (t, m.level_at (m.lift 1 s) t) ∷ []) n.next (came_step (1 + limit) read (m.lift 1 s) t n.next (came_lift 1 limit read s c) n.stepped)
          (subst AreToks (sym (map-append (λ (p : Leveled). p.0) read ((t, m.level_at (m.lift 1 s) t) ∷ []))) f) in
          record {
            behind = x.behind;
            tree = x.tree;
            spells = subst (λ w. Spells g w x.tree)
                (ap (λ w. w ++ x.behind) (map-append (λ (p : Leveled). p.0) read ((t, m.level_at (m.lift 1 s) t) ∷ [])) ∙ append_assoc (toks read) (t ∷ []) x.behind)
                x.spells;
            deep = λ more v h. subst (λ l. limit < l) (sym (opened more v (reads limit read s (t ∷ more) v c h))) (laws.deep limit s t c.seated d);
          }

  pub fault_from : (limit size : ℕ) (whole source : Source) (read : List Leveled) (s : S) (code at : ℕ) → AreAhead whole → Came m limit read s → Leads (toks read) whole source
      → run (m.step limit) m.finish size s source ≡ Err (code, at) → IsFirstFault g limit size whole code at
  fault_from limit size whole ended read s code at a c l e = on_end (m.finish s) refl e
    where
      on_end : (r : Option V) → m.finish s ≡ r → at_end size r ≡ Err (code, at) → IsFirstFault g limit size whole code at
      on_end (Some w) d e = cc
      on_end None d e = let same : (code, at) ≡ (code_of unexpected, size) = cc e in record {
        read = toks read;
        rest = ended;
        leads = l;
        begins = begins_from limit read s c (read_form (toks read) whole ended a l);
        fault = (ap (λ (p : Stopped). p.0) same, ap (λ (p : Stopped). p.1) same, ends_none limit read s c d);
      }
  fault_from limit size whole (faulty d b) read s code at a c l e = let same : (code, at) ≡ (d, b) = cc e in record {
    read = toks read;
    rest = faulty d b;
    leads = l;
    begins = begins_from limit read s c (read_form (toks read) whole (faulty d b) a l);
    fault = (ap (λ (p : Stopped). p.0) same, ap (λ (p : Stopped). p.1) same);
  }
  fault_from limit size whole (token p rest) read s code at a c l e = on_step (m.step limit s (tok_of_piece p)) refl e
      (λ next c l e. fault_from limit size whole rest (read ++ (tok_of_piece p, m.level_at s (tok_of_piece p)) ∷ []) next code at a c l e)
    where
      run_failed : (a b : ℕ) → run_from (m.step limit) m.finish size (Err (a, b)) rest ≡ Err (a, b)
      run_failed a b = refl

      on_step : (r : Result S Halt) → m.step limit s (tok_of_piece p) ≡ r → run_from (m.step limit) m.finish size (stamp p.start r) rest ≡ Err (code, at)
          → ((next : S) → Came m limit (read ++ (tok_of_piece p, m.level_at s (tok_of_piece p)) ∷ []) next → Leads (toks (read ++ (tok_of_piece p, m.level_at s (tok_of_piece p)) ∷ [])) whole rest
          → run (m.step limit) m.finish size next rest ≡ Err (code, at) → IsFirstFault g limit size whole code at)
          → IsFirstFault g limit size whole code at
      on_step (Ok next) d e h = h next (came_step limit read s (tok_of_piece p) next c d)
          (subst (λ w. Leads w whole rest) (sym (map-append (λ (p : Leveled). p.0) read ((tok_of_piece p, m.level_at s (tok_of_piece p)) ∷ [])))
          (leads-push (toks read) (tok_of_piece p) whole (token p rest) rest l (refl, refl)))
          e
      on_step (Err unexpected) d e h = let same : (code, at) ≡ (code_of unexpected, p.start) = cc (e, run_failed (code_of unexpected) p.start) in record {
        read = toks read;
        rest = token p rest;
        leads = l;
        begins = begins_from limit read s c (read_form (toks read) whole (token p rest) a l);
        fault = (ap (λ (p : Stopped). p.1) same, inl (ap (λ (p : Stopped). p.0) same, stops_unexpected limit read s (tok_of_piece p) c d));
      }
      on_step (Err too_deep) d e h = let same : (code, at) ≡ (code_of too_deep, p.start) = cc (e, run_failed (code_of too_deep) p.start) in record {
        read = toks read;
        rest = token p rest;
        leads = l;
        begins = begins_from limit read s c (read_form (toks read) whole (token p rest) a l);
        fault = (
          ap (λ (p : Stopped). p.1) same,
          inr (
            ap (λ (p : Stopped). p.0) same,
            stops_too_deep limit read s (tok_of_piece p) c
                (read_form (toks read ++ tok_of_piece p ∷ []) whole rest a (leads-push (toks read) (tok_of_piece p) whole (token p rest) rest l (refl, refl))) d,
          ),
        );
      }

  pub fault : (limit size : ℕ) (source : Source) (code at : ℕ) → AreAhead source → run (m.step limit) m.finish size (m.start limit) source ≡ Err (code, at)
      → IsFirstFault g limit size source code at
  fault limit size source code at a e = fault_from limit size source source [] (m.start limit) code at a (came_start limit) refl e

  -- ---- the text of a file

  abbrev pub read_text : List ℕ → Result V Stopped
  read_text text = run (m.step nesting_limit) m.finish (length text) (m.start nesting_limit) (lex_from 0 text)

  pub tree_found : (nodes : V → List ℕ) (file : ℕ) (text : List ℕ) (v : V) (places : List FilePlace) → IsUtf8 text → read_text text ≡ Ok v
      → places ≡ place_nodes file text [] (nodes v) (lex_from 0 text) → IsTree g nodes file text v places
  tree_found nodes file text v places u e p =
      let f = found nesting_limit (length text) (lex_from 0 text) v (forms text u) e in
      record { utf8 = u; tokens = f.0; formed = f.1; shallow = f.2; places = p }

  pub tree_only : (nodes : V → List ℕ) (file : ℕ) (text : List ℕ) (v : V) (places : List FilePlace) → IsTree g nodes file text v places → read_text text ≡ Ok v
  tree_only nodes file text v places t = only nesting_limit (length text) (lex_from 0 text) v t.formed t.shallow t.tokens

  pub fault_found : (text : List ℕ) (f : SyntaxFault) (at : ℕ) → IsUtf8 text → read_text text ≡ Err (f.code, at) → f.line ≡ (place_at text at).line → f.column ≡ (place_at text at).column
      → FaultAtOffset g text f
  fault_found text f at u e l c = record { at = at; utf8 = u; first = fault nesting_limit (length text) (lex_from 0 text) f.code at (forms text u) e; line = l; column = c }

  -- a text has at most one tree
  pub one_tree : (nodes : V → List ℕ) (file : ℕ) (text : List ℕ) (v w : V) (places others : List FilePlace)
      → IsTree g nodes file text v places → IsTree g nodes file text w others → v ≡ w
  one_tree nodes file text v w places others t u = let e : Ok v ≡ Ok w = sym (tree_only nodes file text v places t) ∙ tree_only nodes file text w others u in cc

  -- ---- the faults of a parser

  pub parse_fault_found : (file : ℕ) (text : List ℕ) (f : SyntaxFault) (at : ℕ) → IsUtf8 text → read_text text ≡ Err (f.code, at) → f.file ≡ file
      → f.line ≡ (place_at text at).line → f.column ≡ (place_at text at).column → IsParseFault g file text (Syntax f)
  parse_fault_found file text f at u e i l c = (i, inr (fault_found text f at u e l c))

  pub parse_fault_no_text : (file : ℕ) (bytes : List ℕ) (f : SyntaxFault) → (IsUtf8 bytes → ⊥) → f.code ≡ not_utf8 → f.file ≡ file → f.line ≡ 1 → f.column ≡ 1
      → IsParseFault g file bytes (Syntax f)
  parse_fault_no_text file bytes f u e i l c = (i, inl (record { utf8 = u; code = e; line = l; column = c }))
