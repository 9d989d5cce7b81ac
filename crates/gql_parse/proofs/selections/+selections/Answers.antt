use Rattle.std.proofs.Common.{◌≡◌, ◌<◌, ◌+◌, ◌-◌, ◌∷◌, ℕ, List, [], true, false, None, Some, Ok, bytes_eq, refl, sym, ap, subst, ◌∙◌, arith}
use Rattle.std.proofs.lemmas.Grind.{common_steps}
use Rattle.std.proofs.lemmas.Result.{err_from_is_err_and}
use Rattle.gql_syntax.specs.gql_ast.SelectionView.{sel_of, sels_of}
use Rattle.gql_syntax.specs.gql_ast.Sels.{Sels, end, sels_append}
use Rattle.gql_syntax.specs.gql_ast.declared.selection.Selection.TheVariants as S
use Rattle.gql_parse.specs.Machine.{of_inline, on_field, on_spread, on_inline, dotted, in_directives, dotted_name}
use Rattle.gql_parse.specs.Machine as machine
use Rattle.gql_parse.specs.Documents.{SomeSelection}
use Rattle.gql_parse.specs.Reads.{run_on, before_field_set, before_inline, before_set, behind_field_set, behind_inline, behind_set, BeginsSpread, empty_set, inline_of, inside, MayField, MaySelect, MaySet, named_field, selection_at, set_at, spell_closed, spell_field_name, spell_inline_parts, spell_selection}
use Rattle.gql_syntax.specs.Answers.{node_count}
use Rattle.gql_syntax.specs.Machine.{further}
use Rattle.gql_syntax.specs.Nexts.{next_is, next_word, token_count}
use Rattle.gql_syntax.specs.Reads.{Anywhere, NoDirective}
use Rattle.gql_syntax.specs.Spelling.{spell_arguments, spell_directives}
use Rattle.gql_syntax.specs.Words.{on_word}
use Rattle.gql_syntax.specs.gql_lex.Toks as tok
use Rattle.gql_syntax.proofs.Tokens.{comes_at, taken_fewer}
use Rattle.gql_parse.proofs.Courses.{call_goes, call_tells, empty_refused, on_missed, one_word, selection_ends, set_closes, set_missed, set_opens, set_too_deep, some_selection, spread_ends, dotted_ends, word_taken}
use Rattle.gql_parse.proofs.Members.{Selections, then_selected, field_set, inline_nodes, set_closed, set_nodes}
use Rattle.gql_parse.proofs.Passing.{at_start, fewer, fewer_still, fails_deep, pass, pass-over, pass-name, pass-part, pass-sign, pass-token, pass-directives, all_read, fails_here, fails_in, fails_missed, fails_told, fails_directives, reads_in, reads_where}
use Rattle.gql_parse.proofs.selections.+selections.Goals as goal

pub read_set-returns-then-not-next_is-clause-reads : goal.read_set-returns-then-not-next_is-clause-reads
read_set-returns-then-not-next_is-clause-reads t c =
    let n : next_is 123 c.args.cursor.now.source ≡ false = cc in
    rw c.fault.ensures (fails_here (at_start (MaySet c.args.room) (before_set c.args.room) c.args.cursor.now) (λ up size m. set_missed size c.args.room up c.args.cursor.now.source m n))

pub read_set-returns-then-room-eq0-clause-reads : goal.read_set-returns-then-room-eq0-clause-reads
read_set-returns-then-room-eq0-clause-reads t c =
    let n : next_is 123 c.args.cursor.now.source ≡ true = cc in
    let z : c.args.room ≡ 0 = grind (arith, common_steps) in
    rw c.too_deep.ensures (fails_deep (at_start (MaySet c.args.room) (before_set c.args.room) c.args.cursor.now) (λ up size m. set_too_deep size c.args.room up c.args.cursor.now.source m n z))

pub read_set-returns-clause-reads : goal.read_set-returns-clause-reads
read_set-returns-clause-reads t c =
    let n : next_is 123 c.args.cursor.now.source ≡ true = cc in
    let left = c.args.room - 1 in
    let more : c.args.room ≡ left + 1 = grind (arith, common_steps) in
    let p0 = at_start (MaySet c.args.room) (before_set c.args.room) c.args.cursor.now in
    let p1 = pass p0 (empty_set left) (λ ns. c.args.nodes ∷ ns) c.skip.new.self (λ up size e m. set_opens size c.args.room left up c.args.cursor.now.source m n more ∙ ap (λ s. run_on size (empty_set left up) s) (sym c.in_ok-skip.ensures.source))
    c.in_ok-skip.ensures.places (fewer _ _ c.in_ok-skip.ensures.source) c.skip.ensures.same in
    reads_in p1 Anywhere (empty_set left) (λ up. up) (λ up. refl) (λ up m. tt) (behind_set (left + 1)) spell_closed (λ s. s) (behind_set c.args.room) (λ (s : Sels) (ns : List ℕ). c.args.nodes ∷ spell_closed s ns) (λ s. s)
    c.read_selections.new.cursor c.read_selections.result (λ s. s) (λ up s. ap (λ r. behind_set r up s) (sym more)) (λ s ns. refl) (λ s. refl) c.read_selections.ensures.reads

pub read_set-returns-clause-taken : goal.read_set-returns-clause-taken
read_set-returns-clause-taken t c =
    let n : next_is 123 c.args.cursor.now.source ≡ true = cc in
    fewer_still Anywhere (empty_set (c.args.room - 1)) (behind_set (c.args.room - 1 + 1)) spell_closed (λ s. s) c.args.cursor.now c.skip.new.self c.read_selections.new.cursor c.read_selections.result c.read_selections.ensures.reads
    (subst (λ s. token_count s < token_count c.args.cursor.now.source) (sym c.in_ok-skip.ensures.source) (taken_fewer 123 c.args.cursor.now.source n))

pub read_selections-returns-then-next_is-clause-reads : goal.read_selections-returns-then-next_is-clause-reads
read_selections-returns-then-next_is-clause-reads t c =
    let n : next_is 125 c.args.cursor.now.source ≡ true = cc in
    rw c.fault.ensures (fails_here (at_start Anywhere (empty_set c.args.room) c.args.cursor.now) (λ up size m. empty_refused size c.args.room up c.args.cursor.now.source n))

pub read_selections-selections-init : goal.read_selections-selections-init
read_selections-selections-init t c = record {
  reads = subst (λ s. Selections c.args.room c.args.cursor.now c.args.cursor.now s) (sym c.new-selections.ensures) (at_start Anywhere (empty_set c.args.room) c.args.cursor.now);
  unclosed = cc;
}

pub read_selections-returns-in_err-selection-clause-reads : goal.read_selections-returns-in_err-selection-clause-reads
read_selections-returns-in_err-selection-clause-reads t c =
    let e = err_from_is_err_and c.from_residual.result c.from_residual.ensures.1 in
    rw (e.1, e.2) (fails_in c.selections.invariant.reads MaySelect (set_at c.args.room) (λ up. record { before = c.selections.selections; up = up }) (λ up. refl) (λ up m. c.selections.invariant.unclosed)
    c.in_err-selection.field-0.0 c.in_err-selection.ensures.reads)

pub read_selections-returns-then-next_is-2-clause-reads : goal.read_selections-returns-then-next_is-2-clause-reads
read_selections-returns-then-next_is-2-clause-reads t c =
    let b = c.selections.selections in
    let x = c.in_ok-selection.selection in
    let z = sels_of c.shrink_to_fit.new.self.items in
    let fitted : z ≡ c.push.new.self = grind (arith, common_steps) in
    let pushed : z ≡ sels_append b (sel_of x) = fitted ∙ c.in_ok-push.ensures.ok in
    let some : SomeSelection z = subst SomeSelection (sym pushed) (some_selection b x) in
    let n : next_is 125 c.read_selection.new.cursor.source ≡ true = cc in
    let p = then_selected c.args.room c.args.cursor.now c.selections.cursor c.read_selection.new.cursor b z x c.selections.invariant.reads c.selections.invariant.unclosed c.in_ok-selection.ensures.reads pushed in
    all_read (pass-sign p 125 (λ up. behind_set (c.args.room + 1) up z) 0 c.skip.new.self n c.in_ok-skip.ensures.source c.in_ok-skip.ensures.places c.skip.ensures.same (λ up. set_closes c.args.room up z some)) z refl (λ up. refl) (λ ns. refl)

pub read_selections-returns-then-next_is-2-clause-some : goal.read_selections-returns-then-next_is-2-clause-some
read_selections-returns-then-next_is-2-clause-some t c =
    let fitted : sels_of c.shrink_to_fit.new.self.items ≡ c.push.new.self = grind (arith, common_steps) in
    let pushed : sels_of c.shrink_to_fit.new.self.items ≡ sels_append c.selections.selections (sel_of c.in_ok-selection.selection) = fitted ∙ c.in_ok-push.ensures.ok in
    subst SomeSelection (sym pushed) (some_selection c.selections.selections c.in_ok-selection.selection)

pub read_selections-selections-preserved : goal.read_selections-selections-preserved
read_selections-selections-preserved t c = record {
  reads = then_selected c.args.room c.args.cursor.now c.selections.cursor c.read_selection.new.cursor c.selections.selections c.push.new.self c.in_ok-selection.selection
      c.selections.invariant.reads c.selections.invariant.unclosed c.in_ok-selection.ensures.reads c.in_ok-push.ensures.ok;
  unclosed = grind (arith, common_steps);
}

pub read_selection-returns-then-next_is-clause-reads : goal.read_selection-returns-then-next_is-clause-reads
read_selection-returns-then-next_is-clause-reads t c =
    let n : next_is 46 c.args.cursor.now.source ≡ true = cc in
    reads_where MaySelect BeginsSpread (set_at c.args.room) (selection_at c.args.room) spell_selection (λ x. x) c.args.cursor.now c.read_spread.new.cursor c.read_spread.result (λ k m. n) c.read_spread.ensures.reads

pub read_selection-returns-clause-reads : goal.read_selection-returns-clause-reads
read_selection-returns-clause-reads t c =
    let n : next_is 46 c.args.cursor.now.source ≡ false = cc in
    reads_where MaySelect MayField (set_at c.args.room) (selection_at c.args.room) spell_selection (λ x. x) c.args.cursor.now c.read_field.new.cursor c.read_field.result (λ k m. (m, n)) c.read_field.ensures.reads

pub read_field-returns-in_err-alias-clause-reads : goal.read_field-returns-in_err-alias-clause-reads
read_field-returns-in_err-alias-clause-reads t c =
    let e = err_from_is_err_and c.from_residual.result c.from_residual.ensures.1 in
    let p0 = at_start MayField (set_at c.args.room) c.args.cursor.now in
    rw (e.1, e.2) (fails_in p0 MayField machine.set (inside c.args.room) (λ k. refl) (λ k m. m) c.in_err-alias.field-0.0 c.in_err-alias.ensures.reads)

pub read_field-returns-in_err-arguments-clause-reads : goal.read_field-returns-in_err-arguments-clause-reads
read_field-returns-in_err-arguments-clause-reads t c =
    let e = err_from_is_err_and c.from_residual-in_err-arguments.result c.from_residual-in_err-arguments.ensures.1 in
    let p0 = at_start MayField (set_at c.args.room) c.args.cursor.now in
    let f = c.in_ok-alias.field-0 in
    let p1 = pass-part p0 c.in_ok-alias.ensures.reads (inside c.args.room) (λ k. refl) (λ k m. m) in
    rw (e.1, e.2) (fails_told p1 c.in_err-arguments.field-0.0 (λ k size e m. call_tells _ size (named_field (inside c.args.room k) f) c.read_field_name.new.cursor.source c.in_err-arguments.field-0.0 (sym e) c.in_err-arguments.ensures.reads))

pub read_field-returns-in_err-directives-clause-reads : goal.read_field-returns-in_err-directives-clause-reads
read_field-returns-in_err-directives-clause-reads t c =
    let e = err_from_is_err_and c.from_residual-in_err-directives.result c.from_residual-in_err-directives.ensures.1 in
    let p0 = at_start MayField (set_at c.args.room) c.args.cursor.now in
    let f = c.in_ok-alias.field-0 in
    let p1 = pass-part p0 c.in_ok-alias.ensures.reads (inside c.args.room) (λ k. refl) (λ k m. m) in
    let xs = c.in_ok-arguments.arguments in
    let p2 = pass p1 (λ k. in_directives (further false [] (on_field (named_field (inside c.args.room k) f) xs))) (spell_arguments node_count xs) c.read_call.new.cursor
    (λ k size e m. call_goes _ size (named_field (inside c.args.room k) f) c.read_field_name.new.cursor.source xs c.read_call.new.cursor.source (sym e) c.in_ok-arguments.ensures.reads)
    c.in_ok-arguments.ensures.places c.in_ok-arguments.ensures.taken c.in_ok-arguments.ensures.same in
    rw (e.1, e.2) (fails_directives p2 false (λ k. on_field (named_field (inside c.args.room k) f) xs) c.in_err-directives.field-0.0 c.in_err-directives.ensures.reads (λ k. refl))

pub read_field-returns-in_err-selections-clause-reads : goal.read_field-returns-in_err-selections-clause-reads
read_field-returns-in_err-selections-clause-reads t c =
    let e = err_from_is_err_and c.from_residual-in_err-selections.result c.from_residual-in_err-selections.ensures.1 in
    let p0 = at_start MayField (set_at c.args.room) c.args.cursor.now in
    let f = c.in_ok-alias.field-0 in
    let p1 = pass-part p0 c.in_ok-alias.ensures.reads (inside c.args.room) (λ k. refl) (λ k m. m) in
    let xs = c.in_ok-arguments.arguments in
    let p2 = pass p1 (λ k. in_directives (further false [] (on_field (named_field (inside c.args.room k) f) xs))) (spell_arguments node_count xs) c.read_call.new.cursor
    (λ k size e m. call_goes _ size (named_field (inside c.args.room k) f) c.read_field_name.new.cursor.source xs c.read_call.new.cursor.source (sym e) c.in_ok-arguments.ensures.reads)
    c.in_ok-arguments.ensures.places c.in_ok-arguments.ensures.taken c.in_ok-arguments.ensures.same in
    let ds = c.in_ok-directives.directives in
    let p3 = pass-directives p2 false (λ k. on_field (named_field (inside c.args.room k) f) xs) ds c.read_directives.new.cursor c.in_ok-directives.ensures.reads c.in_ok-directives.ensures.places c.in_ok-directives.ensures.taken c.in_ok-directives.ensures.same (λ k. refl) in
    rw (e.1, e.2) (fails_in p3 NoDirective (before_field_set c.args.room) (λ k. record { at = k; name = f; arguments = xs; directives = ds }) (λ k. refl) (λ k m. c.in_ok-directives.ensures.last) c.in_err-selections.field-0.0 c.in_err-selections.ensures.reads)

pub read_field-returns-clause-reads : goal.read_field-returns-clause-reads
read_field-returns-clause-reads t c =
    let p0 = at_start MayField (set_at c.args.room) c.args.cursor.now in
    let f = c.in_ok-alias.field-0 in
    let p1 = pass-part p0 c.in_ok-alias.ensures.reads (inside c.args.room) (λ k. refl) (λ k m. m) in
    let xs = c.in_ok-arguments.arguments in
    let p2 = pass p1 (λ k. in_directives (further false [] (on_field (named_field (inside c.args.room k) f) xs))) (spell_arguments node_count xs) c.read_call.new.cursor
    (λ k size e m. call_goes _ size (named_field (inside c.args.room k) f) c.read_field_name.new.cursor.source xs c.read_call.new.cursor.source (sym e) c.in_ok-arguments.ensures.reads)
    c.in_ok-arguments.ensures.places c.in_ok-arguments.ensures.taken c.in_ok-arguments.ensures.same in
    let ds = c.in_ok-directives.directives in
    let p3 = pass-directives p2 false (λ k. on_field (named_field (inside c.args.room k) f) xs) ds c.read_directives.new.cursor c.in_ok-directives.ensures.reads c.in_ok-directives.ensures.places c.in_ok-directives.ensures.taken c.in_ok-directives.ensures.same (λ k. refl) in
    let s = c.in_ok-selections.selections in
    all_read (pass-part p3 c.in_ok-selections.ensures.reads (λ k. record { at = k; name = f; arguments = xs; directives = ds }) (λ k. refl) (λ k m. c.in_ok-directives.ensures.last))
    (S.Field f.alias f.name xs ds s) refl (λ k. refl) (λ ns. ap (λ r. spell_field_name f (spell_arguments node_count xs (spell_directives node_count ds r))) (set_nodes s ns))

pub read_field-returns-clause-taken : goal.read_field-returns-clause-taken
read_field-returns-clause-taken t c = omega (arith, c.in_ok-alias.ensures.taken, c.in_ok-arguments.ensures.taken, c.in_ok-directives.ensures.taken, c.in_ok-selections.ensures.reads.taken)

pub read_optional_set-returns-then-not-next_is : goal.read_optional_set-returns-then-not-next_is
read_optional_set-returns-then-not-next_is t c =
    let n : next_is 123 c.args.cursor.now.source ≡ false = cc in
    record {
      reads = all_read (pass-over (at_start NoDirective (before_field_set c.args.room) c.args.cursor.now) (λ k. behind_field_set c.args.room k end)
          (λ k size m. selection_ends size (named_field (inside c.args.room k.at) k.name) k.arguments k.directives c.args.cursor.now.source m n)) end (sym c.new.ensures) (λ k. refl) (λ ns. refl);
    }

pub read_optional_set-returns : goal.read_optional_set-returns
read_optional_set-returns t c =
    let n : next_is 123 c.args.cursor.now.source ≡ true = cc in
    record { reads = field_set c.args.room c.args.cursor.now c.read_set.new.cursor c.read_set.result n c.read_set.ensures.some c.read_set.ensures.reads }

pub read_inline-returns-in_err-directives-clause-reads : goal.read_inline-returns-in_err-directives-clause-reads
read_inline-returns-in_err-directives-clause-reads t c =
    let e = err_from_is_err_and c.from_residual.result c.from_residual.ensures.1 in
    let p0 = at_start Anywhere (before_inline c.args.room c.args.on) c.args.cursor.now in
    rw (e.1, e.2) (fails_directives p0 false (λ k. on_inline (inside c.args.room k) c.args.on) c.in_err-directives.field-0.0 c.in_err-directives.ensures.reads (λ k. refl))

pub read_inline-returns-in_err-selections-clause-reads : goal.read_inline-returns-in_err-selections-clause-reads
read_inline-returns-in_err-selections-clause-reads t c =
    let e = err_from_is_err_and c.from_residual-in_err-selections.result c.from_residual-in_err-selections.ensures.1 in
    let p0 = at_start Anywhere (before_inline c.args.room c.args.on) c.args.cursor.now in
    let ds = c.in_ok-directives.directives in
    let p1 = pass-directives p0 false (λ k. on_inline (inside c.args.room k) c.args.on) ds c.read_directives.new.cursor c.in_ok-directives.ensures.reads c.in_ok-directives.ensures.places c.in_ok-directives.ensures.taken c.in_ok-directives.ensures.same (λ k. refl) in
    rw (e.1, e.2) (fails_in p1 (MaySet c.args.room) (before_set c.args.room) (λ k. of_inline k.before c.args.on ds k.up) (λ k. refl) (λ k m. c.in_ok-directives.ensures.last) c.in_err-selections.field-0.0 c.in_err-selections.ensures.reads)

pub read_inline-returns-clause-reads : goal.read_inline-returns-clause-reads
read_inline-returns-clause-reads t c =
    let p0 = at_start Anywhere (before_inline c.args.room c.args.on) c.args.cursor.now in
    let ds = c.in_ok-directives.directives in
    let p1 = pass-directives p0 false (λ k. on_inline (inside c.args.room k) c.args.on) ds c.read_directives.new.cursor c.in_ok-directives.ensures.reads c.in_ok-directives.ensures.places c.in_ok-directives.ensures.taken c.in_ok-directives.ensures.same (λ k. refl) in
    let s = c.in_ok-selections.selections in
    all_read (pass-part p1 c.in_ok-selections.ensures.reads (λ k. of_inline k.before c.args.on ds k.up) (λ k. refl) (λ k m. c.in_ok-directives.ensures.last))
    (record { directives = ds; selections = s }) refl (λ k. refl) (λ ns. ap (λ r. spell_directives node_count ds r) (set_closed s ns c.in_ok-selections.ensures.some))

pub read_inline-returns-clause-taken : goal.read_inline-returns-clause-taken
read_inline-returns-clause-taken t c = omega (arith, c.in_ok-directives.ensures.taken, c.in_ok-selections.ensures.taken)

pub read_spread-returns-in_default-clause-reads : goal.read_spread-returns-in_default-clause-reads
read_spread-returns-in_default-clause-reads t c =
    let p1 = pass-token (at_start BeginsSpread (set_at c.args.room) c.args.cursor.now) tok.spread (λ k. dotted (inside c.args.room k)) 1 c.skip.new.self (λ k m. comes_at 46 c.args.cursor.now.source m) c.in_ok-skip.ensures.source c.in_ok-skip.ensures.places c.skip.ensures.same (λ k. refl) in
    let n : next_word c.skip.new.self.source ≡ None = c.next_word.ensures.none c.in_default.is in
    let p2 = pass-over p1 (before_inline c.args.room None) (λ k size m. dotted_ends size (inside c.args.room k) c.skip.new.self.source n) in
    reads_in p2 Anywhere (before_inline c.args.room None) (λ k. k) (λ k. refl) (λ k m. tt) (behind_inline c.args.room None) spell_inline_parts (inline_of None) (selection_at c.args.room) spell_selection (λ x. x)
    c.read_inline.new.cursor c.read_inline.result (inline_of None) (λ k v. refl) (inline_nodes None) (λ v. refl) c.read_inline.ensures.reads

pub read_spread-returns-in_err-on-clause-reads : goal.read_spread-returns-in_err-on-clause-reads
read_spread-returns-in_err-on-clause-reads t c =
    let e = err_from_is_err_and c.from_residual-in_err-on.result c.from_residual-in_err-on.ensures.1 in
    let p1 = pass-token (at_start BeginsSpread (set_at c.args.room) c.args.cursor.now) tok.spread (λ k. dotted (inside c.args.room k)) 1 c.skip.new.self (λ k m. comes_at 46 c.args.cursor.now.source m) c.in_ok-skip.ensures.source c.in_ok-skip.ensures.places c.skip.ensures.same (λ k. refl) in
    let w = c.in-Some.word.now in
    let is_on : bytes_eq w on_word ≡ true = grind (arith, common_steps) in
    let p2 = pass-name p1 w (λ k. machine.on (inside c.args.room k)) 0 c.skip-then-eq.new.self c.in-Some.ensures.some c.in_ok-skip-2.ensures.source c.in_ok-skip-2.ensures.places c.skip-then-eq.ensures.same (λ k. ap (λ b. Ok (dotted_name (inside c.args.room k) w b)) is_on) in
    rw (e.1, e.2) (fails_missed p2 c.in_err-on.field-0.0 _ c.in_err-on.ensures.fault (λ k size m x. on_missed size (inside c.args.room k) c.skip-then-eq.new.self.source x))

pub read_spread-returns-then-eq-clause-reads : goal.read_spread-returns-then-eq-clause-reads
read_spread-returns-then-eq-clause-reads t c =
    let p1 = pass-token (at_start BeginsSpread (set_at c.args.room) c.args.cursor.now) tok.spread (λ k. dotted (inside c.args.room k)) 1 c.skip.new.self (λ k m. comes_at 46 c.args.cursor.now.source m) c.in_ok-skip.ensures.source c.in_ok-skip.ensures.places c.skip.ensures.same (λ k. refl) in
    let w = c.in-Some.word.now in
    let is_on : bytes_eq w on_word ≡ true = grind (arith, common_steps) in
    let p2 = pass-name p1 w (λ k. machine.on (inside c.args.room k)) 0 c.skip-then-eq.new.self c.in-Some.ensures.some c.in_ok-skip-2.ensures.source c.in_ok-skip-2.ensures.places c.skip-then-eq.ensures.same (λ k. ap (λ b. Ok (dotted_name (inside c.args.room k) w b)) is_on) in
    let o = c.in_ok-on.on in
    let p3 = pass-name p2 o (before_inline c.args.room (Some o)) 1 c.read_name.new.cursor c.in_ok-on.ensures.name c.in_ok-on.ensures.source c.in_ok-on.ensures.places c.read_name.ensures.same (λ k. refl) in
    reads_in p3 Anywhere (before_inline c.args.room (Some o)) (λ k. k) (λ k. refl) (λ k m. tt) (behind_inline c.args.room (Some o)) spell_inline_parts (inline_of (Some o)) (selection_at c.args.room) spell_selection (λ x. x)
    c.read_inline-then-eq.new.cursor c.read_inline-then-eq.result (inline_of (Some o)) (λ k v. refl) (inline_nodes (Some o)) (λ v. refl) c.read_inline-then-eq.ensures.reads

pub read_spread-returns-in_err-name-clause-reads : goal.read_spread-returns-in_err-name-clause-reads
read_spread-returns-in_err-name-clause-reads t c =
    let e = err_from_is_err_and c.from_residual-in_err-name.result c.from_residual-in_err-name.ensures.1 in
    let p1 = pass-token (at_start BeginsSpread (set_at c.args.room) c.args.cursor.now) tok.spread (λ k. dotted (inside c.args.room k)) 1 c.skip.new.self (λ k m. comes_at 46 c.args.cursor.now.source m) c.in_ok-skip.ensures.source c.in_ok-skip.ensures.places c.skip.ensures.same (λ k. refl) in
    rw (e.1, e.2) (fails_missed p1 c.in_err-name.field-0.0 _ c.in_err-name.ensures.fault (λ k size m x. let both : Some c.in-Some.word.now ≡ None = sym c.in-Some.ensures.some ∙ x in cc))

pub read_spread-returns-in_err-directives-clause-reads : goal.read_spread-returns-in_err-directives-clause-reads
read_spread-returns-in_err-directives-clause-reads t c =
    let e = err_from_is_err_and c.from_residual-in_err-directives.result c.from_residual-in_err-directives.ensures.1 in
    let p1 = pass-token (at_start BeginsSpread (set_at c.args.room) c.args.cursor.now) tok.spread (λ k. dotted (inside c.args.room k)) 1 c.skip.new.self (λ k m. comes_at 46 c.args.cursor.now.source m) c.in_ok-skip.ensures.source c.in_ok-skip.ensures.places c.skip.ensures.same (λ k. refl) in
    let name = c.in_ok-name.name in
    let not_on : bytes_eq c.in-Some.word.now on_word ≡ false = grind (arith, common_steps) in
    let named : bytes_eq name on_word ≡ false = subst (λ w. bytes_eq w on_word ≡ false) (one_word c.in-Some.word.now name c.skip.new.self.source c.in-Some.ensures.some c.in_ok-name.ensures.name) not_on in
    let p2 = pass-name p1 name (λ k. in_directives (further false [] (on_spread (inside c.args.room k) name))) 1 c.read_name-2.new.cursor c.in_ok-name.ensures.name c.in_ok-name.ensures.source c.in_ok-name.ensures.places c.read_name-2.ensures.same
    (λ k. ap (λ b. Ok (dotted_name (inside c.args.room k) name b)) named) in
    rw (e.1, e.2) (fails_directives p2 false (λ k. on_spread (inside c.args.room k) name) c.in_err-directives.field-0.0 c.in_err-directives.ensures.reads (λ k. refl))

pub read_spread-returns-clause-reads : goal.read_spread-returns-clause-reads
read_spread-returns-clause-reads t c =
    let p1 = pass-token (at_start BeginsSpread (set_at c.args.room) c.args.cursor.now) tok.spread (λ k. dotted (inside c.args.room k)) 1 c.skip.new.self (λ k m. comes_at 46 c.args.cursor.now.source m) c.in_ok-skip.ensures.source c.in_ok-skip.ensures.places c.skip.ensures.same (λ k. refl) in
    let name = c.in_ok-name.name in
    let not_on : bytes_eq c.in-Some.word.now on_word ≡ false = grind (arith, common_steps) in
    let named : bytes_eq name on_word ≡ false = subst (λ w. bytes_eq w on_word ≡ false) (one_word c.in-Some.word.now name c.skip.new.self.source c.in-Some.ensures.some c.in_ok-name.ensures.name) not_on in
    let p2 = pass-name p1 name (λ k. in_directives (further false [] (on_spread (inside c.args.room k) name))) 1 c.read_name-2.new.cursor c.in_ok-name.ensures.name c.in_ok-name.ensures.source c.in_ok-name.ensures.places c.read_name-2.ensures.same
    (λ k. ap (λ b. Ok (dotted_name (inside c.args.room k) name b)) named) in
    let ds = c.in_ok-directives.directives in
    let p3 = pass-directives p2 false (λ k. on_spread (inside c.args.room k) name) ds c.read_directives.new.cursor c.in_ok-directives.ensures.reads c.in_ok-directives.ensures.places c.in_ok-directives.ensures.taken c.in_ok-directives.ensures.same (λ k. refl) in
    all_read (pass-over p3 (λ k. selection_at c.args.room k (S.Spread name ds)) (λ k size m. spread_ends size (inside c.args.room k) name ds c.read_directives.new.cursor.source c.in_ok-directives.ensures.last)) (S.Spread name ds) refl (λ k. refl) (λ ns. refl)

pub read_spread-returns-clause-taken : goal.read_spread-returns-clause-taken
read_spread-returns-clause-taken t c =
    omega (
      arith,
      fewer c.args.cursor.now.source c.skip.new.self.source c.in_ok-skip.ensures.source,
      word_taken c.in_ok-name.name c.skip.new.self.source c.read_name-2.new.cursor.source c.in_ok-name.ensures.name c.in_ok-name.ensures.source,
      c.in_ok-directives.ensures.taken,
    )
