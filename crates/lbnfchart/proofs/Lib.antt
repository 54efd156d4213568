mod TopCallLemmas
