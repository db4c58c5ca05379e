-- Without its checksums a content is still one: neither order nor lists depend on them.
use Rattle.std.proofs.Common.{◌≡◌, ◌<◌, length, map, subst, sym}
use Rattle.std.specs.List.{All, AllPairs}
use Rattle.std.specs.declared.cmp.Ordering.TheVariants.{Less}
use Rattle.std.proofs.lemmas.List.{length-map}
use Rattle.std.proofs.lemmas.List.Elements.{All-map}
use Rattle.model.specs.Content.{Content}
use Rattle.model.specs.Order.{package_cmp, IsContent}
use Rattle.model.proofs.Mapped.{pairs_map}
use Rattle.flaws.specs.inner.Unsummed.{without_checksum}

pub still_content : (content : Content) → IsContent content → IsContent (map without_checksum content)
still_content content formed = record {
  in_order = pairs_map without_checksum (λ p r. package_cmp p r ≡ Less) content formed.in_order;
  within = All-map (λ p. All (λ t. t < length (map without_checksum content)) p.list) without_checksum content
      (subst (λ k. All (λ p. All (λ t. t < k) p.list) content) (sym (length-map content without_checksum))
      formed.within);
  rising = All-map (λ p. AllPairs (λ i j. i < j) p.list) without_checksum content formed.rising;
}
