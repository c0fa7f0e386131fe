mod ShownWords
