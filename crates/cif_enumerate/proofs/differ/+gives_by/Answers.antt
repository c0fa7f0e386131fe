use Rattle.std.proofs.Common.{◌≡◌, List, ℕ, map, length, rules, ap, sym, ◌∙◌, subst}
use Rattle.cif_enumerate.proofs.Filling.{found_either, kept_after, next_within, widths_kept}
use Rattle.cif_enumerate.proofs.differ.+gives_by.Goals as goal

pub gives_by-requires : goal.gives_by-requires
gives_by-requires g t c κs within =
    let same : map length c.write_bit.new.words ≡ map length c.args.words.now = ap (map length) c.write_bit.ensures ∙ widths_kept _ _ _ in (
      search rules,
      (
        search rules,
        (
          next_within _ _ _ _ _ c.requires.within c.in-Some.ensures.cases.0 same,
          subst (λ (n : List ℕ). g.F.Function.takes c.args.function.now n) (sym same) c.requires.takes,
        ),
      ),
    )

pub gives_by-requires-in-Some : goal.gives_by-requires-in-Some
gives_by-requires-in-Some g t c κs within =
    let low : map length c.write_bit.new.words ≡ map length c.args.words.now = ap (map length) c.write_bit.ensures ∙ widths_kept _ _ _ in
    let same : map length c.write_bit-in-Some.new.words ≡ map length c.args.words.now = ap (map length) c.write_bit-in-Some.ensures ∙ widths_kept _ _ _ ∙ ap (map length) c.in_ok-low-in-Some.ensures.kept ∙ low in (
      search rules,
      (
        search rules,
        (
          next_within _ _ _ _ _ c.requires.within c.in-Some.ensures.cases.0 same,
          subst (λ (n : List ℕ). g.F.Function.takes c.args.function.now n) (sym same) c.requires.takes,
        ),
      ),
    )

pub returns-in_ok-high-in-Some-clause-found : goal.returns-in_ok-high-in-Some-clause-found
returns-in_ok-high-in-Some-clause-found g t c =
    found_either _ _ _ _ _ c.in-Some.place.now _ _ _ _ _ c.requires.within c.in-Some.ensures.cases.0
    (record { low = c.write_bit.ensures; low_kept = c.in_ok-low-in-Some.ensures.kept; high = c.write_bit-in-Some.ensures; high_kept = c.in_ok-high-in-Some.ensures.kept })
    c.in_ok-low-in-Some.ensures.found c.in_ok-high-in-Some.ensures.found

pub returns-in_ok-high-in-Some-clause-kept : goal.returns-in_ok-high-in-Some-clause-kept
returns-in_ok-high-in-Some-clause-kept g t c =
    kept_after _ _ _ _ _ _ c.in-Some.place.now _ _ _ _ c.requires.within c.in-Some.ensures.cases.0
    (record { low = c.write_bit.ensures; low_kept = c.in_ok-low-in-Some.ensures.kept; high = c.write_bit-in-Some.ensures; high_kept = c.in_ok-high-in-Some.ensures.kept })
    c.get-was.ensures c.write_bit-in-Some-2.ensures
