use Rattle.std.proofs.Common.{◌≡◌, ◌≤◌, ◌∙◌, ◌++◌, ◌∷◌, [], ◌+◌, ◌%◌, ◌^◌, refl, ap, subst, sym}
use Rattle.std.proofs.Common.{length, List, ℕ}
use Rattle.cdr_record.specs.Spelling.{octet_1, bytes_of as number_bytes}
use Rattle.script_generator.specs.Records.{padding, bytes_of}
use Rattle.script_generator.proofs.Spelling.{spelled, record_least, record_within}
use Rattle.script_generator.proofs.record.spell_record.Goals as goal

pub returns : goal.returns
returns c =
    let first : c.extend_from_slice.new.self.items
    ≡ c.clear.new.self.items ++ (octet_1 c.order_of-order.result
    ∷ padding c.args.round c.args.conn ∷ padding c.args.round c.args.conn
    ∷ padding c.args.round c.args.conn ∷ []) =
    c.in_ok-extend_from_slice.ensures.items
    ∙ ap (λ (n : ℕ). c.clear.new.self.items
    ++ (n ∷ padding c.args.round c.args.conn ∷ padding c.args.round c.args.conn
    ∷ padding c.args.round c.args.conn ∷ [])) c.octet_of.ensures in
    let kind : c.push_word-2.new.out.items
    ≡ c.push_word.new.out.items ++ number_bytes c.order_of-order.result 4
    (2 ^ ((c.args.round + c.args.conn) % 11)) =
    c.in_ok-push_word-2.ensures ∙ ap (λ (n : ℕ). c.push_word.new.out.items
    ++ number_bytes c.order_of-order.result 4 n) c.kind_of.ensures in
    let is : c.push.new.self.items ≡ bytes_of c.args.seed c.args.round c.args.conn =
    spelled c.args.seed c.args.round c.args.conn _ _ _ _ _ _ _ _ _ _ _ _ _ c.order_of-order.ensures
    c.letter_count-letters.ensures.count refl
    c.clear.ensures.items first c.in_ok-push_word.ensures kind c.in_ok-push_word-3.ensures
    c.in_ok-push_word-4.ensures
    c.in_ok-push_word-5.ensures c.in_ok-push_word-6.ensures c.in_ok-push_letters.ensures
    c.in_ok-push.ensures.items in
    record {
      bytes = is;
      least = subst (λ (bytes : List ℕ). 29 ≤ length bytes) (sym is)
          (record_least c.args.seed c.args.round c.args.conn);
      most = subst (λ (bytes : List ℕ). length bytes ≤ 68) (sym is)
          (record_within c.args.seed c.args.round c.args.conn);
    }
