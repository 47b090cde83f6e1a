use Rattle.std.proofs.Common.{◌≡◌, ℕ, List, [], ◌++◌, take, Option, Some, None, rules, ap, ◌∙◌}
use Rattle.std.specs.Option.{IfSome, option_map}
use Rattle.filter.proofs.convert.Goals as goal

-- all of what is known up to a limit is the first part of what is known
first_of : (known : Option (List ℕ)) (m n : ℕ) (bytes read : List ℕ) → m ≡ n → bytes ≡ read → IfSome (option_map (take m) known) (λ xs. read ≡ [] ++ xs) → IfSome known (λ xs. bytes ≡ take n xs)
first_of None m n bytes read same is h = h
first_of (Some xs) m n bytes read same is h = is ∙ h ∙ ap (λ k. take k xs) same

pub returns : goal.returns
returns g c =
    record {
      bytes = c.as_slice.result;
      text = c.in_ok-text.text;
      read = first_of (g.R.Read.remaining c.args.input) c.take.result.limit c.args.most c.as_slice.result.now c.read_to_end.new.buf.items (search rules) (search rules) (search rules);
      made = search rules;
      written = search rules;
    }
