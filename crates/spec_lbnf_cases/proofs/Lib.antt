mod CheckExamples
