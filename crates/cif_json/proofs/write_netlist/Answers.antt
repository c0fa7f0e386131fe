use Rattle.std.proofs.Common.{◌≡◌, ◌++◌, sym, ap, ◌∙◌, subst}
use Rattle.std.specs.Str.{IsUtf8}
use Rattle.json.specs.Print.{print}
use Rattle.cif_json.specs.WrittenNetlist.{file_data, data_tokens}
use Rattle.cif_json.proofs.NetlistRoundTrip.{is_text, is_utf8, round_trip}
use Rattle.cif_json.proofs.write_netlist.Goals as goal

pub returns-clause-text : goal.returns-clause-text
returns-clause-text c =
    let ts = c.write_file.new.out.tokens in
    let tokens : ts ≡ data_tokens (file_data c.args.raw.now) = c.in_ok-write_file.ensures.1 ∙ ap (λ old. old ++ data_tokens (file_data c.args.raw.now)) c.new-out.ensures.tokens in
    let text : c.into_inner-text.result.items ≡ print ts = c.into_inner-text.ensures.items ∙ ap (λ b. b ++ print ts) (c.in_ok-write_file.ensures.0 ∙ c.new-out.ensures.before ∙ c.new.ensures.items) in
    is_text c.args.raw.now ts _ _ tokens text c.in_ok-push.ensures.items

pub returns-clause-back : goal.returns-clause-back
returns-clause-back c small =
    let ts = c.write_file.new.out.tokens in
    let text : c.into_inner-text.result.items ≡ print ts = c.into_inner-text.ensures.items ∙ ap (λ b. b ++ print ts) (c.in_ok-write_file.ensures.0 ∙ c.new-out.ensures.before ∙ c.new.ensures.items) in
    let utf8 = is_utf8 _ _ (subst IsUtf8 (sym text) c.into_inner-text.ensures.utf8) c.in_ok-push.ensures.items in
    round_trip c.args.raw.now _ (returns-clause-text c) utf8 c.requires small
