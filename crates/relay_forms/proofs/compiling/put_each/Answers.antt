use Rattle.std.proofs.Common.{◌≡◌, ◌++◌, [], List, get_or, take, refl, sym, ap, inl, inr, ◌∙◌, arith, length-append, length-take}
use Rattle.std.proofs.lemmas.List.{drop_all}
use Rattle.plan_project.specs.Expansions.{line_lists}
use Rattle.relay_io.specs.Streams.{append}
use Rattle.relay_io.proofs.Streaming.{append-none}
use Rattle.plan_ir.specs.schema_tables.Types.{Text}
use Rattle.relay_forms.specs.Artifacts.{artifacts_text, text_of_lines}
use Rattle.relay_forms.proofs.ArtifactLines.{artifacts_whole, lines_end, put_next, put_part, put_all_lists}
use Rattle.relay_forms.proofs.Pieces.{added_more}
use Rattle.relay_forms.proofs.WholeLines.{both_end}
use Rattle.relay_forms.proofs.compiling.put_each.Goals as goal

pub artifacts-init : goal.artifacts-init
artifacts-init g c = record {
  so_far = ([], sym (append-none _), sym (artifacts_whole c.args.artifacts.now.project.now.0 c.args.artifacts.now.project.now.1), inl refl, omega arith);
  later = omega arith;
}

pub artifacts-preserved : goal.artifacts-preserved
artifacts-preserved g c =
    let inv = c.artifacts.invariant.so_far in
    let lists = line_lists c.args.artifacts.now.project.now.0 c.args.artifacts.now.project.now.1 in
    let all = artifacts_text c.args.artifacts.now.project.now.0 c.args.artifacts.now.project.now.1 in
    let lines : List Text = get_or lists c.artifacts.n [] in
    let w = c.in-Ok.ensures.ok in
    let calls = w.1 in
    record {
      so_far = (
        inv.0 ++ text_of_lines lines,
        added_more (g.K.Sink.contents c.args.out.now) (g.K.Sink.contents c.artifacts.out) (g.K.Sink.contents c.put_artifact.new.out) inv.0 (text_of_lines lines) inv.1 w.0,
        put_next lists c.artifacts.n (omega arith) all inv.0 inv.2,
        both_end inv.0 (text_of_lines lines) inv.3 (lines_end lines),
        omega (arith, inv.4, calls, length-append inv.0 (text_of_lines lines)),
      );
      later = omega (arith, c.artifacts.invariant.later, c.put_artifact.ensures.later);
    }

pub returns-in-Err-WriteFault-clause-added : goal.returns-in-Err-WriteFault-clause-added
returns-in-Err-WriteFault-clause-added g c =
    let inv = c.artifacts.invariant.so_far in
    let lists = line_lists c.args.artifacts.now.project.now.0 c.args.artifacts.now.project.now.1 in
    let all = artifacts_text c.args.artifacts.now.project.now.0 c.args.artifacts.now.project.now.1 in
    let next = text_of_lines (get_or lists c.artifacts.n []) in
    let w = c.in-Err-WriteFault.ensures.err in (
      inv.0 ++ take w.0 next,
      added_more (g.K.Sink.contents c.args.out.now) (g.K.Sink.contents c.artifacts.out) (g.K.Sink.contents c.put_artifact.new.out) inv.0 (take w.0 next) inv.1 w.2,
      omega (arith, inv.4, w.3, w.1, length-append inv.0 (take w.0 next), length-take w.0 next),
      inl refl,
      _,
      put_part lists c.artifacts.n (omega arith) all inv.0 inv.2 w.0,
      λ e. absurd (cc),
    )

pub returns-in-Err-NoMemory-clause-added : goal.returns-in-Err-NoMemory-clause-added
returns-in-Err-NoMemory-clause-added g c =
    let inv = c.artifacts.invariant.so_far in
    let lists = line_lists c.args.artifacts.now.project.now.0 c.args.artifacts.now.project.now.1 in
    let next = text_of_lines (get_or lists c.artifacts.n []) in
    let w = c.in-Err-NoMemory.ensures.err in
    let none : take w.0 next ≡ [] = ap (λ k. take k next) (w.4 c.in-Err-NoMemory.field-0-is) in (
      inv.0,
      w.2 ∙ ap (append (g.K.Sink.contents c.artifacts.out)) none ∙ append-none _ ∙ inv.1,
      omega (arith, inv.4, w.3, w.4 c.in-Err-NoMemory.field-0-is),
      inr inv.3,
      _,
      inv.2,
      λ e. absurd (cc),
    )

pub returns-clause-added : goal.returns-clause-added
returns-clause-added g c =
    let inv = c.artifacts.invariant.so_far in
    let lists = line_lists c.args.artifacts.now.project.now.0 c.args.artifacts.now.project.now.1 in
    let all = artifacts_text c.args.artifacts.now.project.now.0 c.args.artifacts.now.project.now.1 in
    (inv.0, inv.1, omega (arith, inv.4), inr inv.3, [], put_all_lists lists c.artifacts.n all inv.0 (drop_all c.artifacts.n lists (omega arith)) inv.2, λ _. refl)
