use Rattle.std.proofs.Common.{arith, rules, sym, ◌∙◌, ◌<◌, length, map}
use Rattle.std.proofs.lemmas.List.{length-map}
use Rattle.cif_stimulus.specs.StimulusView.{line_seen, tainted}
use Rattle.cif_starts.proofs.StartLaws.{same_of, started_first, started_next}
use Rattle.cif_starts.proofs.StartWords.{place_inside, line_is, line_named, next_left, at_none, at_some}
use Rattle.cif_starts.proofs.starts.take_lines.Goals as goal

pub loop-at-init : goal.loop-at-init
loop-at-init c = record {
  value = c.requires.value;
  taint = c.requires.taint;
  started = started_first (map line_seen c.args.lines.now) c.args.cell.now (tainted c.args.value.now c.args.taint.now) (tainted c.args.value.now c.args.taint.now) c.args.first
      c.requires.chain.found (same_of _ _);
}

pub offset_bounds-lines-place : goal.offset_bounds-lines-place
offset_bounds-lines-place c =
    let inside : c.in-Some.place < length c.args.lines.now = place_inside c.args.lines.now _ c.in-Some.place (c.loop-at.invariant.started.place c.in-Some.place c.in-Some.is) in
    search rules

pub bounds-lines-place : goal.bounds-lines-place
bounds-lines-place c = place_inside c.args.lines.now _ c.in-Some.place (c.loop-at.invariant.started.place c.in-Some.place c.in-Some.is)

pub take_line-requires-clause-named : goal.take_line-requires-clause-named
take_line-requires-clause-named c = line_named c.args.lines.now _ c.in-Some.place c.index-lines-place.result (c.loop-at.invariant.started.place c.in-Some.place c.in-Some.is) c.index-lines-place.is

pub offset_bounds-following-place : goal.offset_bounds-following-place
offset_bounds-following-place c =
    let inside : c.in-Some.place < length c.args.lines.now = place_inside c.args.lines.now _ c.in-Some.place (c.loop-at.invariant.started.place c.in-Some.place c.in-Some.is) in
    let many = c.requires.as_many in
    search (rules, arith)

pub bounds-following-place : goal.bounds-following-place
bounds-following-place c =
    let inside : c.in-Some.place < length c.args.lines.now = place_inside c.args.lines.now _ c.in-Some.place (c.loop-at.invariant.started.place c.in-Some.place c.in-Some.is) in
    let many = c.requires.as_many in
    omega arith

pub loop-at-smaller : goal.loop-at-smaller
loop-at-smaller c =
    let at = c.loop-at.invariant.started.place c.in-Some.place c.in-Some.is in
    rw c.in-Some.is
    (next_left (map line_seen c.args.lines.now) c.args.cell.now.name c.in-Some.place (length c.args.lines.now) _ (sym (length-map c.args.lines.now line_seen))
    (place_inside c.args.lines.now _ c.in-Some.place at) (c.requires.chain.chained c.in-Some.place (omega arith) at.named))

pub loop-at-preserved : goal.loop-at-preserved
loop-at-preserved c =
    let at = c.loop-at.invariant.started.place c.in-Some.place c.in-Some.is in
    record {
      value = c.take_line.auto.value ∙ c.loop-at.invariant.value;
      taint = c.take_line.auto.taint ∙ c.loop-at.invariant.taint;
      started = started_next (map line_seen c.args.lines.now) c.args.cell.now _ (tainted c.loop-at.value c.loop-at.taint) (tainted c.take_line.new.value c.take_line.new.taint) c.in-Some.place (line_seen c.index-lines-place.result) _
          at.inside (line_is c.args.lines.now _ c.in-Some.place c.index-lines-place.result at c.index-lines-place.is)
          (at_some _ _ _ _ _ c.in-Some.place c.in-Some.is c.loop-at.invariant.started)
          c.take_line.ensures
          (c.requires.chain.chained c.in-Some.place (omega arith) at.named);
    }

pub returns : goal.returns
returns c = (at_none _ _ _ _ _ c.in_default.is c.loop-at.invariant.started).same
